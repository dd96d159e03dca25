-- What a reference refers to, by what stands around its point or its bracket.
use Rattle.std.proofs.Common.{◌≡◌, ℕ, true, false, List, ap, ◌∙◌, sym}
use Rattle.std.specs.Prelude.{◌&&◌, ◌==◌, if◌then◌else◌}
use Rattle.std.specs.List.{after_first}
use Rattle.mk_scenario.specs.References.{has_byte, ends_with, but_last, entity_of, entity_at, full_id, indexed, group_ids, whole, in_group, place_of}
use Rattle.mk_scenario.specs.inner.References.{IsAround}
use Rattle.mk_scenario.specs.declared.parts.Group.{Group}

module _ (groups : List Group) (path text : List ℕ) where
  pub with_point : (sims : List (List ℕ)) (sim eid : List ℕ) → IsAround 46 text sim eid → place_of sims groups path text ≡ entity_of sims path sim eid
  unfolding place_of
  with_point sims sim eid around =
      ap (λ has. if has then full_id sims path text else in_group groups path text) around.0
      ∙ ap (λ s. entity_of sims path s (after_first (λ b. b == 46) text)) (sym around.1) ∙ ap (entity_of sims path sim) (sym around.2)

  pub with_index : (id rest : List ℕ) → IsAround 91 text id rest → ends_with 93 text ≡ true → in_group groups path text ≡ entity_at groups path text id (but_last rest)
  with_index id rest around ends =
      ap (λ has. if has && ends_with 93 text then indexed groups path text else whole (group_ids groups) path text) around.0
      ∙ ap (λ has. if has then indexed groups path text else whole (group_ids groups) path text) ends
      ∙ ap (λ s. entity_at groups path text s (but_last (after_first (λ b. b == 91) text))) (sym around.1)
      ∙ ap (λ s. entity_at groups path text id (but_last s)) (sym around.2)

  pub without_end : has_byte 91 text ≡ true → ends_with 93 text ≡ false → in_group groups path text ≡ whole (group_ids groups) path text
  without_end has ends = ap (λ has. if has && ends_with 93 text then indexed groups path text else whole (group_ids groups) path text) has ∙ ap (λ has. if has then indexed groups path text else whole (group_ids groups) path text) ends
