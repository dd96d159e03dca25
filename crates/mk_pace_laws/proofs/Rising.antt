-- Where a clock never goes back, what it told last is the greatest number that it told.
use Rattle.std.proofs.Common.{◌≡◌, ℕ, Bool, true, false, List, [], ◌∷◌, ◌++◌, Option, Some, None, option_map, unwrap_or, max, refl, sym, ap, ◌∙◌, arith, append_assoc, if◌then◌else◌}
use Rattle.mk_base.proofs.Lists.{none_some, some_same}
use Rattle.mk_outside.specs.declared.fleet.LogEntry.{LogEntry}
use Rattle.mk_outside.specs.declared.fleet.LogEntry.TheVariants.{Heard, NotHeard, Said, NotSaid, Ended, Rest, Told, Nap}
use Rattle.mk_outside.specs.Logs.{greatest_told, last_that, later_of, told_by}
use Rattle.mk_pace_laws.specs.Clocks.{IsRising, is_told, last_told}

-- the number of a look, if there is one, or 0
abbrev told_of : Option LogEntry → ℕ
told_of o = unwrap_or (option_map told_by o) 0

-- a beginning of such a log is one
pub rising_front : (before after : List LogEntry) → IsRising (before ++ after) → IsRising before
rising_front before after rising b a n is = rising b (a ++ after) n (ap (λ (l : List LogEntry). l ++ after) is ∙ append_assoc b (Told n ∷ a) after)

-- an entry that tells no number
told_none : (e : LogEntry) → is_told e ≡ false → told_by e ≡ 0
told_none (Heard on bytes) e = refl
told_none (NotHeard on) e = refl
told_none (Said on bytes) e = refl
told_none (NotSaid on) e = refl
told_none (Ended on) e = refl
told_none Rest e = refl
told_none (Told n) e = absurd (apart e)
  where
    apart : true ≡ false → ⊥
    apart q = cc
told_none Nap e = refl

-- the last look at the clock stands somewhere
pub record IsLook (log : List LogEntry) (d : LogEntry) : Type 0 where
  pub before : List LogEntry
  pub after : List LogEntry
  pub number : ℕ
  pub parts : log ≡ before ++ Told number ∷ after
  pub is : d ≡ Told number

pub look_there : (log : List LogEntry) (d : LogEntry) → last_that is_told log ≡ Some d → IsLook log d
look_there [] d e = absurd (none_some e)
look_there (x ∷ log) d e = go (look_there log) (last_that is_told log) refl e
  where
    first : (y : LogEntry) → (if is_told y then Some y else None) ≡ Some d → IsLook (y ∷ log) d
    first (Heard on bytes) q = absurd (none_some q)
    first (NotHeard on) q = absurd (none_some q)
    first (Said on bytes) q = absurd (none_some q)
    first (NotSaid on) q = absurd (none_some q)
    first (Ended on) q = absurd (none_some q)
    first Rest q = absurd (none_some q)
    first (Told n) q = record { before = []; after = log; number = n; parts = refl; is = sym (some_same q) }
    first Nap q = absurd (none_some q)

    go : ((y : LogEntry) → last_that is_told log ≡ Some y → IsLook log y) → (o : Option LogEntry) → last_that is_told log ≡ o → later_of (if is_told x then Some x else None) o ≡ Some d → IsLook (x ∷ log) d
    go rest None is q = first x q
    go rest (Some y) is q =
        let l = rest y is in
        record { before = x ∷ l.before; after = l.after; number = l.number; parts = ap (λ (m : List LogEntry). x ∷ m) l.parts; is = sym (some_same q) ∙ l.is }

-- where there was no look, no number was told
none_told : (log : List LogEntry) → last_that is_told log ≡ None → greatest_told log ≡ 0
none_told [] e = refl
none_told (x ∷ log) e = go (none_told log) (last_that is_told log) refl e
  where
    apart : {y : LogEntry} → Some y ≡ None → ⊥
    apart q = cc

    first : (b : Bool) → is_told x ≡ b → (if b then Some x else None) ≡ None → told_by x ≡ 0
    first true is q = absurd (apart q)
    first false is q = told_none x is

    go : (last_that is_told log ≡ None → greatest_told log ≡ 0) → (o : Option LogEntry) → last_that is_told log ≡ o → later_of (if is_told x then Some x else None) o ≡ None → max (told_by x) (greatest_told log) ≡ 0
    go rest None is q = ap (λ (n : ℕ). max n (greatest_told log)) (first (is_told x) refl q) ∙ ap (max 0) (rest is)
    go rest (Some y) is q = absurd (apart q)

pub last_is_greatest : (log : List LogEntry) → IsRising log → greatest_told log ≡ last_told log
last_is_greatest [] rising = refl
last_is_greatest (x ∷ log) rising = go (last_is_greatest log) (last_that is_told log) refl
  where
    later : IsRising log
    later b a n is =
        let all = rising (x ∷ b) a n (ap (λ (m : List LogEntry). x ∷ m) is) in
        omega (arith, all)

    alone : (b : Bool) → is_told x ≡ b → max (told_by x) 0 ≡ told_of (if b then Some x else None)
    alone true is = omega arith
    alone false is = let none = told_none x is in omega (arith, none)

    go : (IsRising log → greatest_told log ≡ last_told log) → (o : Option LogEntry) → last_that is_told log ≡ o → max (told_by x) (greatest_told log) ≡ told_of (later_of (if is_told x then Some x else None) (last_that is_told log))
    go same None is = ap (max (told_by x)) (none_told log is) ∙ alone (is_told x) refl ∙ ap (λ (o : Option LogEntry). told_of (later_of (if is_told x then Some x else None) o)) (sym is)
    go same (Some y) is =
        let l = look_there log y is in
        let up = rising (x ∷ l.before) l.after l.number (ap (λ (m : List LogEntry). x ∷ m) l.parts) in
        let rest : greatest_told log ≡ told_by y = same later ∙ ap told_of is in
        let y_is : told_by y ≡ l.number = ap told_by l.is in
        let most : max (told_by x) (greatest_told log) ≡ told_by y = omega (arith, up, rest, y_is) in
        most ∙ ap (λ (o : Option LogEntry). told_of (later_of (if is_told x then Some x else None) o)) (sym is)
