-- The links of a plan, one after the other.
use Rattle.std.proofs.Common.{◌≡◌, ℕ, ◌+◌, ◌<◌, ◌≤◌, List, [], ◌∷◌, ◌++◌, length, map, flat_map, get_or, take, sym, ap, subst, ◌∙◌}
use Rattle.std.proofs.lemmas.List.{take_all, take_more}
use Rattle.mk_base.proofs.Lists.{append_nil, map_append}
use Rattle.mk_plan.specs.declared.Plan.{Plan}
use Rattle.mk_plan.specs.declared.Conn.{Conn}
use Rattle.mk_plan.specs.declared.AsyncPair.{AsyncPair}
use Rattle.mk_plan.specs.Plans.{link_of, pair_links, waiting_links}
use Rattle.mk_tiers.specs.declared.wires.Wire.{Wire}
use Rattle.mk_tiers.specs.inner.Wires.{wire_of}

pub wires_more : (P : Plan) (items : List Conn) (i : ℕ) (k : Conn) (old new : List Wire) (w : Wire) → items ≡ P.conns → i < length items → k ≡ get_or items i k → old ≡ map wire_of (map (link_of P) (take i P.conns)) → w ≡ wire_of (link_of P k) → new ≡ old ++ w ∷ []
    → new ≡ map wire_of (map (link_of P) (take (i + 1) P.conns))
wires_more P items i k old new w same low is so here grown =
    let there : i < length P.conns = subst (λ (l : List Conn). i < length l) same low in
    let item : k ≡ get_or P.conns i k = subst (λ (l : List Conn). k ≡ get_or l i k) same is in
    grown ∙ ap (λ (l : List Wire). l ++ w ∷ []) so
    ∙ ap (λ (v : Wire). map wire_of (map (link_of P) (take i P.conns)) ++ v ∷ []) (here ∙ ap (λ (c : Conn). wire_of (link_of P c)) item)
    ∙ sym (ap (λ (l : List Conn). map wire_of (map (link_of P) l)) (take_more P.conns i k there)
    ∙ ap (map wire_of) (map_append (link_of P) (take i P.conns) (get_or P.conns i k ∷ []))
    ∙ map_append wire_of (map (link_of P) (take i P.conns)) (link_of P (get_or P.conns i k) ∷ []))

pub wires_all : (P : Plan) (items : List Conn) (n : ℕ) (old : List Wire) → items ≡ P.conns → length items ≤ n → old ≡ map wire_of (map (link_of P) (take n P.conns)) → old ≡ map wire_of (map (link_of P) P.conns) ++ []
wires_all P items n old same all so = so ∙ ap (λ (l : List Conn). map wire_of (map (link_of P) l)) (take_all n P.conns (subst (λ (l : List Conn). length l ≤ n) same all)) ∙ sym (append_nil (map wire_of (map (link_of P) P.conns)))

pub wires_whole : (P : Plan) (items : List AsyncPair) (n : ℕ) (old : List Wire) → items ≡ P.asyncs → length items ≤ n → old ≡ map wire_of (map (link_of P) P.conns) ++ map wire_of (flat_map pair_links (take n P.asyncs)) → old ≡ map wire_of (waiting_links P)
wires_whole P items n old same all so = so ∙ ap (λ (l : List AsyncPair). map wire_of (map (link_of P) P.conns) ++ map wire_of (flat_map pair_links l)) (take_all n P.asyncs (subst (λ (l : List AsyncPair). length l ≤ n) same all))
    ∙ sym (map_append wire_of (map (link_of P) P.conns) (flat_map pair_links P.asyncs))
