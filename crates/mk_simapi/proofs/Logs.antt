-- The rests of a log that goes on.
use Rattle.std.proofs.Common.{◌≡◌, ℕ, inl, inr, List, [], ◌∷◌, ◌++◌, refl, sym, ap, ◌∙◌, subst, arith}
use Rattle.mk_base.specs.declared.LinkNo.{LinkNo}
use Rattle.mk_base.specs.Lists.{Each}
use Rattle.mk_base.proofs.Lists.{append_nil}
use Rattle.mk_outside.specs.declared.fleet.LogEntry.{LogEntry}
use Rattle.mk_outside.specs.declared.fleet.LogEntry.TheVariants.{NotSaid, Rest}
use Rattle.mk_outside.specs.Logs.{IsOnLink, is_write, last_write, said_on}
use Rattle.mk_session.specs.Talks.{IsSaidOut}
use Rattle.mk_local.specs.Simulators.{Simulator}
use Rattle.mk_run_laws.specs.Rests.{SaysAll}
use Rattle.mk_run_laws.proofs.Moving.{last_later}
use Rattle.mk_run_laws.proofs.Stepping.{first_or_second}
use Rattle.mk_simapi.specs.Serving.{IsWellAtRest, RestsWell}
use Rattle.mk_base.proofs.Items.{not_empty}

-- entries of one link have no rest
restless : (link : LinkNo) (before after entries : List LogEntry) → Each (IsOnLink link) entries → entries ≡ before ++ Rest ∷ after → ⊥
restless link before after [] each is = not_empty before after Rest is
restless link [] after (e ∷ entries) (first, each) is = let same : e ≡ Rest = cc in subst (IsOnLink link) same first
restless link (b ∷ before) after (e ∷ entries) (first, each) is = restless link before after entries each cc

pub no_rest : (L : Simulator) (link : LinkNo) → RestsWell L link []
no_rest L link before after is = absurd (not_empty before after Rest is)

-- a call on the link adds no rest
pub rests_still : (L : Simulator) (link : LinkNo) (log entries : List LogEntry) → RestsWell L link log → Each (IsOnLink link) entries → RestsWell L link (log ++ entries)
rests_still L link log entries rests each before after is = elim (first_or_second log entries before after Rest is) [
  | inl t ↦ rests before t.0 t.1
  | inr t ↦ absurd (restless link t.0 after entries each t.2)
]

-- a rest is added
pub rests_more : (L : Simulator) (link : LinkNo) (log : List LogEntry) → RestsWell L link log → IsWellAtRest L link log → RestsWell L link (log ++ Rest ∷ [])
rests_more L link log rests well before after is = elim (first_or_second log (Rest ∷ []) before after Rest is) [
  | inl t ↦ rests before t.0 t.1
  | inr t ↦ subst (IsWellAtRest L link) (sym (t.1 ∙ ap (λ (x : List LogEntry). log ++ x) (none t.0 after t.2) ∙ append_nil log)) well
]
  where
    none : (less after : List LogEntry) → Rest ∷ [] ≡ less ++ Rest ∷ after → less ≡ []
    none [] after e = refl
    none (x ∷ less) after e = absurd (not_empty less after Rest cc)

-- what is unsaid is nothing, or the last write took nothing
pub says_all : (link : LinkNo) (log : List LogEntry) (unsent all : List ℕ) → said_on link log ++ unsent ≡ all → IsSaidOut link (last_write link log) unsent → SaysAll link log all
says_all link log unsent all is (inl none) = inl (sym (append_nil (said_on link log)) ∙ ap (λ (u : List ℕ). said_on link log ++ u) (sym none) ∙ is)
says_all link log [] all is (inr held) = inl (sym (append_nil (said_on link log)) ∙ is)
says_all link log (b ∷ unsent) all is (inr held) = inr ((b ∷ unsent, omega arith, sym is), held)

-- it stays so over a log that ends with these entries
pub said_out_later : (link : LinkNo) (log entries : List LogEntry) (unsent : List ℕ) → IsSaidOut link (last_write link entries) unsent → IsSaidOut link (last_write link (log ++ entries)) unsent
said_out_later link log entries unsent (inl none) = inl none
said_out_later link log entries unsent (inr held) = inr (last_later (is_write link) log entries (NotSaid link) held)
