-- The words that are sorted are spelled so, and those that are spelled so are sorted.
use Rattle.std.proofs.Common.{◌≡◌, ℕ, suc, true, false, cond, List, [], ◌∷◌, ◌++◌, length, flat_map, map, Option, Some, None, refl, sym, ap, ◌∙◌, subst, codes, true≢false, ◌≤◌, ◌<◌, ◌+◌, ◌-◌, arith, inl, inr, get_or, take, drop}
use Rattle.std.proofs.lemmas.Slice.Eq.{bytes_eq-Decides}
use Rattle.std.specs.List.{fold}
use Rattle.std.proofs.lemmas.List.{length-append, take_rest}
use Rattle.mk_base.specs.Lists.{IsIn, same_text}
use Rattle.mk_base.proofs.Lists.{flat_map_in, in_flat_map, in_map, map_in}
use Rattle.mosaikrun_words.specs.declared.request.OptionName.{OptionName}
use Rattle.mosaikrun_words.specs.declared.request.OptionName.TheVariants as name
use Rattle.mosaikrun_words.specs.inner.Arranged.{long, name_of, start, value_after}
use Rattle.mosaikrun_words.specs.inner.Sorted.{Shape, front_of, joined, joined_in, last_of, named, nothing, plain_in, save_in, single, sorted_of, strict_in, with_option, with_plain, with_save, with_strict}
use Rattle.mosaikrun_words.specs.Requests.{if_given}
use Rattle.mosaikrun_words.specs.Words.{Given, Text, forms, is_value, placings, spellings, with_option as placed_with}
use Rattle.mosaikrun_words.proofs.Spelled.{after_is}

abbrev Group : Type 0
Group = List Text

abbrev strict_given : Text → Given
strict_given v = (codes "strict", v)

abbrev save_given : Text → Given
save_given v = (codes "record", v)

abbrev flat : List Group → List Text
flat = flat_map (λ form. form)

-- groups of words, each a word of the command or an option: what the words are
pub data Spells : List Group → Option Text → Option Text → Option Text → Option Text → Type 0 where
  ended : Spells [] None None None None
  first_word : (l : List Group) (w : Text) (s r : Option Text) → is_value w ≡ true → Spells l None None s r → Spells ((w ∷ []) ∷ l) (Some w) None s r
  second_word : (l : List Group) (w x : Text) (s r : Option Text) → is_value w ≡ true → Spells l (Some x) None s r → Spells ((w ∷ []) ∷ l) (Some w) (Some x) s r
  strict_form : (l : List Group) (form : Group) (v : Text) (a b r : Option Text) → IsIn form (forms (strict_given v)) → Spells l a b None r → Spells (form ∷ l) a b (Some v) r
  save_form : (l : List Group) (form : Group) (v : Text) (a b s : Option Text) → IsIn form (forms (save_given v)) → Spells l a b s None → Spells (form ∷ l) a b s (Some v)

-- the words are of such groups
pub record AreGroups (words : List Text) (p : Shape) : Type 0 where
  pub groups : List Group
  pub is : words ≡ flat groups
  pub spells : Spells groups p.first p.second p.strict p.save

-- what is sorted is spelled so

put_in_front : (l : List Group) (w : Text) (a b s r : Option Text) → b ≡ None → is_value w ≡ true → Spells l a b s r → Spells ((w ∷ []) ∷ l) (Some w) a s r
put_in_front l w None None s r e v t = first_word l w s r v t
put_in_front l w (Some x) None s r e v t = second_word l w x s r v t
put_in_front l w a (Some y) s r e v t = cc

-- what stands behind, where it is sorted
abbrev Behind : List Text → Option Shape → Type 0
Behind words o = (q : Shape) → o ≡ Some q → AreGroups words q

plain_so : (w : Text) (words : List Text) (o : Option Shape) (p : Shape) → is_value w ≡ true → Behind words o → with_plain w o ≡ Some p → AreGroups (w ∷ words) p
plain_so w words None p v h e = cc
plain_so w words (Some q) p v h e = by q.second refl e
  where
    by : (b : Option Text) → q.second ≡ b → plain_in w b q ≡ Some p → AreGroups (w ∷ words) p
    by None is k =
        let g = h q refl in
        let same : record q { first = Some w; second = q.first } ≡ p = cc in
        subst (AreGroups (w ∷ words)) same (record { groups = (w ∷ []) ∷ g.groups; is = ap (λ l. w ∷ l) g.is; spells = put_in_front g.groups w q.first q.second q.strict q.save is v g.spells })
    by (Some y) is k = cc

strict_so : (form : Group) (v : Text) (words : List Text) (o : Option Shape) (p : Shape) → IsIn form (forms (strict_given v)) → Behind words o → with_strict v o ≡ Some p → AreGroups (form ++ words) p
strict_so form v words None p m h e = cc
strict_so form v words (Some q) p m h e = by q.strict refl e
  where
    by : (b : Option Text) → q.strict ≡ b → strict_in v b q ≡ Some p → AreGroups (form ++ words) p
    by None is k =
        let g = h q refl in
        let same : record q { strict = Some v } ≡ p = cc in
        subst (AreGroups (form ++ words)) same (record { groups = form ∷ g.groups; is = ap (λ l. form ++ l) g.is; spells = strict_form g.groups form v q.first q.second q.save m (subst (λ (s : Option Text). Spells g.groups q.first q.second s q.save) is g.spells) })
    by (Some y) is k = cc

save_so : (form : Group) (v : Text) (words : List Text) (o : Option Shape) (p : Shape) → IsIn form (forms (save_given v)) → Behind words o → with_save v o ≡ Some p → AreGroups (form ++ words) p
save_so form v words None p m h e = cc
save_so form v words (Some q) p m h e = by q.save refl e
  where
    by : (b : Option Text) → q.save ≡ b → save_in v b q ≡ Some p → AreGroups (form ++ words) p
    by None is k =
        let g = h q refl in
        let same : record q { save = Some v } ≡ p = cc in
        subst (AreGroups (form ++ words)) same (record { groups = form ∷ g.groups; is = ap (λ l. form ++ l) g.is; spells = save_form g.groups form v q.first q.second q.strict m (subst (λ (s : Option Text). Spells g.groups q.first q.second q.strict s) is g.spells) })
    by (Some y) is k = cc

joined_so : (w : Text) (words : List Text) (o : Option Shape) (p : Shape) → Behind words o → joined w o ≡ Some p → AreGroups (w ∷ words) p
joined_so w words o p h e = by (value_after (start (codes "strict")) w) refl (value_after (start (codes "record")) w) refl e
  where
    by : (s : Option Text) → value_after (start (codes "strict")) w ≡ s → (r : Option Text) → value_after (start (codes "record")) w ≡ r → joined_in s r o ≡ Some p → AreGroups (w ∷ words) p
    by (Some v) is r other k = strict_so (w ∷ []) v words o p (inr (inl (ap (λ (x : Text). x ∷ []) (after_is (start (codes "strict")) w v is)))) h k
    by None is (Some v) other k = save_so (w ∷ []) v words o p (inr (inl (ap (λ (x : Text). x ∷ []) (after_is (start (codes "record")) w v other)))) h k
    by None is None other k = cc

single_so : (w : Text) (words : List Text) (o : Option Shape) (p : Shape) → Behind words o → single w o ≡ Some p → AreGroups (w ∷ words) p
single_so w words o p h e = elim (is_value w) as (λ t. is_value w ≡ t → cond t (with_plain w o) (joined w o) ≡ Some p → AreGroups (w ∷ words) p) [
  | true ↦ λ t k. plain_so w words o p t h k
  | false ↦ λ t k. joined_so w words o p h k
] refl e

named_is : (w : Text) (o : OptionName) → named w ≡ Some o → w ≡ long (name_of o)
named_is w o e = elim (same_text w (long (codes "strict"))) as (λ b. same_text w (long (codes "strict")) ≡ b → cond b (Some name.Strict) (cond (same_text w (long (codes "record"))) (Some name.Record) None) ≡ Some o → w ≡ long (name_of o)) [
  | true ↦ λ t k. let same : name.Strict ≡ o = cc in subst (λ (x : OptionName). w ≡ long (name_of x)) same ((bytes_eq-Decides w (long (codes "strict"))).0 t)
  | false ↦ λ t k. elim (same_text w (long (codes "record"))) as (λ b. same_text w (long (codes "record")) ≡ b → cond b (Some name.Record) None ≡ Some o → w ≡ long (name_of o)) [
    | true ↦ λ u z. let same : name.Record ≡ o = cc in subst (λ (x : OptionName). w ≡ long (name_of x)) same ((bytes_eq-Decides w (long (codes "record"))).0 u)
    | false ↦ λ u z. cc
  ] refl k
] refl e

option_so : (o : OptionName) (w v : Text) (more : List Text) (s : Option Shape) (p : Shape) → w ≡ long (name_of o) → Behind more s → with_option o v s ≡ Some p → AreGroups (w ∷ v ∷ more) p
option_so name.Strict w v more s p is h e = strict_so (w ∷ v ∷ []) v more s p (inl (ap (λ (x : Text). x ∷ v ∷ []) is)) h e
option_so name.Record w v more s p is h e = save_so (w ∷ v ∷ []) v more s p (inl (ap (λ (x : Text). x ∷ v ∷ []) is)) h e
option_so name.Order w v more s p is h e = cc

nothing_so : Behind [] (Some nothing)
nothing_so q e = let same : nothing ≡ q = cc in subst (AreGroups []) same (record { groups = []; is = refl; spells = ended })

pub sorted_so : (words : List Text) (p : Shape) → sorted_of words ≡ Some p → AreGroups words p
sorted_so [] p e = nothing_so p e
sorted_so (w ∷ []) p e = elim (named w) as (λ o. last_of o w ≡ Some p → AreGroups (w ∷ []) p) [
  | None ↦ λ k. single_so w [] (Some nothing) p nothing_so k
  | Some o ↦ λ k. cc
] e
sorted_so (w ∷ v ∷ more) p e = elim (named w) as (λ o. named w ≡ o → front_of o w v (sorted_of (v ∷ more)) (sorted_of more) ≡ Some p → AreGroups (w ∷ v ∷ more) p) [
  | None ↦ λ is k. single_so w (v ∷ more) (sorted_of (v ∷ more)) p (sorted_so (v ∷ more)) k
  | Some o ↦ λ is k. option_so o w v more (sorted_of more) p (named_is w o is) (sorted_so more) k
] refl e

-- an option taken out

head_in : (x : Group) (l : List Group) → IsIn (x ∷ l) (placings x l)
head_in x [] = inl refl
head_in x (y ∷ ys) = inl refl

behind_in : (x y : Group) (l rest : List Group) → IsIn l (placings x rest) → IsIn (y ∷ l) (placings x (y ∷ rest))
behind_in x y l rest h = inr (map_in (λ m. y ∷ m) l (placings x rest) h)

-- where the option is given, the groups are others among which it is put
record IsOut (g : Given) (l : List Group) (a b s r : Option Text) : Type 0 where
  form : Group
  rest : List Group
  is_form : IsIn form (forms g)
  put : IsIn l (placings form rest)
  spells : Spells rest a b s r

strict_out : (l : List Group) (a b s r : Option Text) (v : Text) → Spells l a b s r → s ≡ Some v → IsOut (strict_given v) l a b None r
strict_out _ _ _ _ _ v ended e = cc
strict_out _ _ _ _ _ v (first_word l w s r val t) e =
    let o = strict_out l None None s r v t e in
    record { form = o.form; rest = (w ∷ []) ∷ o.rest; is_form = o.is_form; put = behind_in o.form (w ∷ []) l o.rest o.put; spells = first_word o.rest w None r val o.spells }
strict_out _ _ _ _ _ v (second_word l w x s r val t) e =
    let o = strict_out l (Some x) None s r v t e in
    record { form = o.form; rest = (w ∷ []) ∷ o.rest; is_form = o.is_form; put = behind_in o.form (w ∷ []) l o.rest o.put; spells = second_word o.rest w x None r val o.spells }
strict_out _ _ _ _ _ v (strict_form l form u a b r m t) e =
    let same : u ≡ v = cc in
    record { form = form; rest = l; is_form = subst (λ (x : Text). IsIn form (forms (strict_given x))) same m; put = head_in form l; spells = t }
strict_out _ _ _ _ _ v (save_form l form u a b s m t) e =
    let o = strict_out l a b s None v t e in
    record { form = o.form; rest = form ∷ o.rest; is_form = o.is_form; put = behind_in o.form form l o.rest o.put; spells = save_form o.rest form u a b None m o.spells }

save_out : (l : List Group) (a b s r : Option Text) (v : Text) → Spells l a b s r → r ≡ Some v → IsOut (save_given v) l a b s None
save_out _ _ _ _ _ v ended e = cc
save_out _ _ _ _ _ v (first_word l w s r val t) e =
    let o = save_out l None None s r v t e in
    record { form = o.form; rest = (w ∷ []) ∷ o.rest; is_form = o.is_form; put = behind_in o.form (w ∷ []) l o.rest o.put; spells = first_word o.rest w s None val o.spells }
save_out _ _ _ _ _ v (second_word l w x s r val t) e =
    let o = save_out l (Some x) None s r v t e in
    record { form = o.form; rest = (w ∷ []) ∷ o.rest; is_form = o.is_form; put = behind_in o.form (w ∷ []) l o.rest o.put; spells = second_word o.rest w x s None val o.spells }
save_out _ _ _ _ _ v (strict_form l form u a b r m t) e =
    let o = save_out l a b None r v t e in
    record { form = o.form; rest = form ∷ o.rest; is_form = o.is_form; put = behind_in o.form form l o.rest o.put; spells = strict_form o.rest form u a b None m o.spells }
save_out _ _ _ _ _ v (save_form l form u a b s m t) e =
    let same : u ≡ v = cc in
    record { form = form; rest = l; is_form = subst (λ (x : Text). IsIn form (forms (save_given x))) same m; put = head_in form l; spells = t }

abbrev plain_groups : Option Text → Option Text → List Group
plain_groups None b = []
plain_groups (Some a) None = (a ∷ []) ∷ []
plain_groups (Some a) (Some b) = (a ∷ []) ∷ (b ∷ []) ∷ []

bare_out : (l : List Group) (a b s r : Option Text) → Spells l a b s r → s ≡ None → r ≡ None → l ≡ plain_groups a b
bare_out _ _ _ _ _ ended e f = refl
bare_out _ _ _ _ _ (first_word l w s r val t) e f = ap (λ m. (w ∷ []) ∷ m) (bare_out l None None s r t e f)
bare_out _ _ _ _ _ (second_word l w x s r val t) e f = ap (λ m. (w ∷ []) ∷ m) (bare_out l (Some x) None s r t e f)
bare_out _ _ _ _ _ (strict_form l form u a b r m t) e f = cc
bare_out _ _ _ _ _ (save_form l form u a b s m t) e f = cc

put_option : (all : List (List Group)) (g : Given) (form : Group) (rest l : List Group) → IsIn form (forms g) → IsIn rest all → IsIn l (placings form rest) → IsIn l (placed_with all g)
put_option all g form rest l m h p = flat_map_in (λ form. flat_map (placings form) all) form l (forms g) m (flat_map_in (placings form) rest l all h p)

abbrev given_of : Option Text → Option Text → List Given
given_of s r = if_given (codes "strict") s ++ if_given (codes "record") r

abbrev base : Text → Text → List (List Group)
base a b = ((a ∷ []) ∷ (b ∷ []) ∷ []) ∷ []

spelled_groups : (l : List Group) (a b : Text) (s r : Option Text) → Spells l (Some a) (Some b) s r → IsIn l (fold placed_with (base a b) (given_of s r))
spelled_groups l a b None None t = inl (bare_out l (Some a) (Some b) None None t refl refl)
spelled_groups l a b (Some v) None t =
    let o = strict_out l (Some a) (Some b) (Some v) None v t refl in
    put_option (base a b) (strict_given v) o.form o.rest l o.is_form (inl (bare_out o.rest (Some a) (Some b) None None o.spells refl refl)) o.put
spelled_groups l a b None (Some w) t =
    let o = save_out l (Some a) (Some b) None (Some w) w t refl in
    put_option (base a b) (save_given w) o.form o.rest l o.is_form (inl (bare_out o.rest (Some a) (Some b) None None o.spells refl refl)) o.put
spelled_groups l a b (Some v) (Some w) t =
    let o = save_out l (Some a) (Some b) (Some v) (Some w) w t refl in
    let q = strict_out o.rest (Some a) (Some b) (Some v) None v o.spells refl in
    put_option (placed_with (base a b) (strict_given v)) (save_given w) o.form o.rest l o.is_form
    (put_option (base a b) (strict_given v) q.form q.rest o.rest q.is_form (inl (bare_out q.rest (Some a) (Some b) None None q.spells refl refl)) q.put) o.put

-- words of such groups are spelled so
pub spelled_so : (words : List Text) (a b : Text) (s r : Option Text) → AreGroups words (record { first = Some a; second = Some b; strict = s; save = r }) → IsIn words (spellings (a ∷ b ∷ []) (given_of s r))
spelled_so words a b s r g = subst (λ (w : List Text). IsIn w (spellings (a ∷ b ∷ []) (given_of s r))) (sym g.is) (map_in flat g.groups (fold placed_with (base a b) (given_of s r)) (spelled_groups g.groups a b s r g.spells))

-- what is spelled so is sorted

strict_put : (rest : List Group) (a b s r : Option Text) (form : Group) (v : Text) (l : List Group) → Spells rest a b s r → s ≡ None → IsIn form (forms (strict_given v)) → IsIn l (placings form rest) → Spells l a b (Some v) r
strict_put _ _ _ _ _ form v l ended e m (inl is) = subst (λ (x : List Group). Spells x None None (Some v) None) (sym is) (strict_form [] form v None None None m ended)
strict_put _ _ _ _ _ form v l ended e m (inr h) = absurd h
strict_put _ _ _ _ _ form v l (first_word k w s r val t) e m (inl is) = subst (λ (x : List Group). Spells x (Some w) None (Some v) r) (sym is) (strict_form _ form v _ _ _ m (first_word k w None r val (subst (λ (z : Option Text). Spells k None None z r) e t)))
strict_put _ _ _ _ _ form v l (first_word k w s r val t) e m (inr h) =
    let n = in_map (λ z. (w ∷ []) ∷ z) l (placings form k) h in
    subst (λ (x : List Group). Spells x (Some w) None (Some v) r) (sym n.2) (first_word n.0 w (Some v) r val (strict_put k None None s r form v n.0 t e m n.1))
strict_put _ _ _ _ _ form v l (second_word k w x s r val t) e m (inl is) = subst (λ (z : List Group). Spells z (Some w) (Some x) (Some v) r) (sym is) (strict_form _ form v _ _ _ m (second_word k w x None r val (subst (λ (z : Option Text). Spells k (Some x) None z r) e t)))
strict_put _ _ _ _ _ form v l (second_word k w x s r val t) e m (inr h) =
    let n = in_map (λ z. (w ∷ []) ∷ z) l (placings form k) h in
    subst (λ (z : List Group). Spells z (Some w) (Some x) (Some v) r) (sym n.2) (second_word n.0 w x (Some v) r val (strict_put k (Some x) None s r form v n.0 t e m n.1))
strict_put _ _ _ _ _ form v l (strict_form k other u a b r o t) e m h = cc
strict_put _ _ _ _ _ form v l (save_form k other u a b s o t) e m (inl is) = subst (λ (z : List Group). Spells z a b (Some v) (Some u)) (sym is) (strict_form _ form v _ _ _ m (save_form k other u a b None o (subst (λ (z : Option Text). Spells k a b z None) e t)))
strict_put _ _ _ _ _ form v l (save_form k other u a b s o t) e m (inr h) =
    let n = in_map (λ z. other ∷ z) l (placings form k) h in
    subst (λ (z : List Group). Spells z a b (Some v) (Some u)) (sym n.2) (save_form n.0 other u a b (Some v) o (strict_put k a b s None form v n.0 t e m n.1))

save_put : (rest : List Group) (a b s r : Option Text) (form : Group) (v : Text) (l : List Group) → Spells rest a b s r → r ≡ None → IsIn form (forms (save_given v)) → IsIn l (placings form rest) → Spells l a b s (Some v)
save_put _ _ _ _ _ form v l ended e m (inl is) = subst (λ (x : List Group). Spells x None None None (Some v)) (sym is) (save_form [] form v None None None m ended)
save_put _ _ _ _ _ form v l ended e m (inr h) = absurd h
save_put _ _ _ _ _ form v l (first_word k w s r val t) e m (inl is) = subst (λ (x : List Group). Spells x (Some w) None s (Some v)) (sym is) (save_form _ form v _ _ _ m (first_word k w s None val (subst (λ (z : Option Text). Spells k None None s z) e t)))
save_put _ _ _ _ _ form v l (first_word k w s r val t) e m (inr h) =
    let n = in_map (λ z. (w ∷ []) ∷ z) l (placings form k) h in
    subst (λ (x : List Group). Spells x (Some w) None s (Some v)) (sym n.2) (first_word n.0 w s (Some v) val (save_put k None None s r form v n.0 t e m n.1))
save_put _ _ _ _ _ form v l (second_word k w x s r val t) e m (inl is) = subst (λ (z : List Group). Spells z (Some w) (Some x) s (Some v)) (sym is) (save_form _ form v _ _ _ m (second_word k w x s None val (subst (λ (z : Option Text). Spells k (Some x) None s z) e t)))
save_put _ _ _ _ _ form v l (second_word k w x s r val t) e m (inr h) =
    let n = in_map (λ z. (w ∷ []) ∷ z) l (placings form k) h in
    subst (λ (z : List Group). Spells z (Some w) (Some x) s (Some v)) (sym n.2) (second_word n.0 w x s (Some v) val (save_put k (Some x) None s r form v n.0 t e m n.1))
save_put _ _ _ _ _ form v l (strict_form k other u a b r o t) e m (inl is) = subst (λ (z : List Group). Spells z a b (Some u) (Some v)) (sym is) (save_form _ form v _ _ _ m (strict_form k other u a b None o (subst (λ (z : Option Text). Spells k a b None z) e t)))
save_put _ _ _ _ _ form v l (strict_form k other u a b r o t) e m (inr h) =
    let n = in_map (λ z. other ∷ z) l (placings form k) h in
    subst (λ (z : List Group). Spells z a b (Some u) (Some v)) (sym n.2) (strict_form n.0 other u a b (Some v) o (save_put k a b None r form v n.0 t e m n.1))
save_put _ _ _ _ _ form v l (save_form k other u a b s o t) e m h = cc

in_option : (all : List (List Group)) (g : Given) (l : List Group) → IsIn l (placed_with all g) → (form : Group) × (rest : List Group) × IsIn form (forms g) × IsIn rest all × IsIn l (placings form rest)
in_option all g l h =
    let p = in_flat_map (λ form. flat_map (placings form) all) l (forms g) h in
    let q = in_flat_map (placings p.0) l all p.2 in
    (p.0, q.0, p.1, q.1, q.2)

groups_spell : (l : List Group) (a b : Text) (s r : Option Text) → is_value a ≡ true → is_value b ≡ true → IsIn l (fold placed_with (base a b) (given_of s r)) → Spells l (Some a) (Some b) s r
groups_spell l a b s r va vb = by s r
  where
    plain : (m : List Group) → IsIn m (base a b) → Spells m (Some a) (Some b) None None
    plain m (inl is) = subst (λ (x : List Group). Spells x (Some a) (Some b) None None) (sym is) (second_word _ a b None None va (first_word [] b None None vb ended))
    plain m (inr h) = absurd h

    one : (m : List Group) (v : Text) → IsIn m (placed_with (base a b) (strict_given v)) → Spells m (Some a) (Some b) (Some v) None
    one m v h = let o = in_option (base a b) (strict_given v) m h in strict_put o.1 (Some a) (Some b) None None o.0 v m (plain o.1 o.3) refl o.2 o.4

    by : (s r : Option Text) → IsIn l (fold placed_with (base a b) (given_of s r)) → Spells l (Some a) (Some b) s r
    by None None h = plain l h
    by (Some v) None h = one l v h
    by None (Some w) h = let o = in_option (base a b) (save_given w) l h in save_put o.1 (Some a) (Some b) None None o.0 w l (plain o.1 o.3) refl o.2 o.4
    by (Some v) (Some w) h = let o = in_option (placed_with (base a b) (strict_given v)) (save_given w) l h in save_put o.1 (Some a) (Some b) (Some v) None o.0 w l (one o.1 v o.3) refl o.2 o.4

-- a value is no option
named_none : (w : Text) → is_value w ≡ true → named w ≡ None
named_none w h = by (named w) refl
  where
    by : (o : Option OptionName) → named w ≡ o → o ≡ None
    by None e = refl
    by (Some name.Strict) e = let is = sym (ap is_value (named_is w name.Strict e)) ∙ h in absurd (true≢false (sym is))
    by (Some name.Record) e = let is = sym (ap is_value (named_is w name.Record e)) ∙ h in absurd (true≢false (sym is))
    by (Some name.Order) e = let is = sym (ap is_value (named_is w name.Order e)) ∙ h in absurd (true≢false (sym is))

plain_step : (w : Text) (words : List Text) → is_value w ≡ true → sorted_of (w ∷ words) ≡ with_plain w (sorted_of words)
plain_step w [] h = rw (named_none w h, h) refl
plain_step w (v ∷ more) h = rw (named_none w h, h) refl

strict_step : (form : Group) (v : Text) (words : List Text) → IsIn form (forms (strict_given v)) → sorted_of (form ++ words) ≡ with_strict v (sorted_of words)
strict_step form v words (inl e) = ap (λ (f : Group). sorted_of (f ++ words)) e
strict_step form v [] (inr (inl e)) = ap sorted_of (ap (λ (f : Group). f ++ []) e)
strict_step form v (x ∷ more) (inr (inl e)) = ap (λ (f : Group). sorted_of (f ++ x ∷ more)) e
strict_step form v words (inr (inr h)) = absurd h

save_step : (form : Group) (v : Text) (words : List Text) → IsIn form (forms (save_given v)) → sorted_of (form ++ words) ≡ with_save v (sorted_of words)
save_step form v words (inl e) = ap (λ (f : Group). sorted_of (f ++ words)) e
save_step form v [] (inr (inl e)) = ap (λ (f : Group). sorted_of (f ++ [])) e
save_step form v (x ∷ more) (inr (inl e)) = ap (λ (f : Group). sorted_of (f ++ x ∷ more)) e
save_step form v words (inr (inr h)) = absurd h

abbrev shape : Option Text → Option Text → Option Text → Option Text → Option Shape
shape a b s r = Some (record { first = a; second = b; strict = s; save = r })

sorted_all : (l : List Group) (a b s r : Option Text) → Spells l a b s r → sorted_of (flat l) ≡ shape a b s r
sorted_all _ _ _ _ _ ended = refl
sorted_all _ _ _ _ _ (first_word l w s r val t) = plain_step w (flat l) val ∙ ap (with_plain w) (sorted_all l None None s r t)
sorted_all _ _ _ _ _ (second_word l w x s r val t) = plain_step w (flat l) val ∙ ap (with_plain w) (sorted_all l (Some x) None s r t)
sorted_all _ _ _ _ _ (strict_form l form v a b r m t) = strict_step form v (flat l) m ∙ ap (with_strict v) (sorted_all l a b None r t)
sorted_all _ _ _ _ _ (save_form l form v a b s m t) = save_step form v (flat l) m ∙ ap (with_save v) (sorted_all l a b s None t)

pub sorted_is : (words : List Text) (a b : Text) (s r : Option Text) → is_value a ≡ true → is_value b ≡ true → IsIn words (spellings (a ∷ b ∷ []) (given_of s r)) → sorted_of words ≡ shape (Some a) (Some b) s r
sorted_is words a b s r va vb h =
    let m = in_map flat words (fold placed_with (base a b) (given_of s r)) h in
    ap sorted_of m.2 ∙ sorted_all m.0 (Some a) (Some b) s r (groups_spell m.0 a b s r va vb m.1)

-- a word that isn't an option before its value
pub none_front : (w : Text) (rest : List Text) → named w ≡ None → sorted_of (w ∷ rest) ≡ single w (sorted_of rest)
none_front w [] e = rw e refl
none_front w (v ∷ more) e = rw e refl

-- words of which the first is known
pub word_front : {X : Type 0} (f : X → Text) (W : List X) (w : X) → 1 ≤ length W → w ≡ get_or W 0 w → map f W ≡ f w ∷ map f (take (length W - 1) (drop 1 W))
word_front f [] w h e = absurd (omega (arith, h))
word_front f (x ∷ xs) w h e =
    let same : w ≡ x = e in
    ap (λ y. f y ∷ map f xs) (sym same) ∙ ap (λ l. f w ∷ map f l) (sym (take_rest (x ∷ xs) 1))

-- many words aren't sorted

abbrev weight : Option Text → ℕ
weight None = 0
weight (Some t) = 2

abbrev half : Option Text → ℕ
half None = 0
half (Some t) = 1

form_length : (g : Given) (form : Group) → IsIn form (forms g) → length form ≤ 2
form_length g form (inl e) = subst (λ (f : Group). length f ≤ 2) (sym e) (omega (arith))
form_length g form (inr (inl e)) = subst (λ (f : Group). length f ≤ 2) (sym e) (omega (arith))
form_length g form (inr (inr h)) = absurd h

half_most : (o : Option Text) → half o ≤ 1
half_most None = omega (arith)
half_most (Some t) = omega (arith)

weight_most : (o : Option Text) → weight o ≤ 2
weight_most None = omega (arith)
weight_most (Some t) = omega (arith)

one_more : (n m s r : ℕ) → n ≤ m + s + r → suc n ≤ suc m + s + r
one_more n m s r h = omega (arith, h)

few_words : (l : List Group) (a b s r : Option Text) → Spells l a b s r → length (flat l) ≤ half a + half b + weight s + weight r
few_words _ _ _ _ _ ended = omega (arith)
few_words _ _ _ _ _ (first_word l w s r val t) = let h : length (flat l) ≤ 0 + weight s + weight r = few_words l None None s r t in one_more (length (flat l)) 0 (weight s) (weight r) h
few_words _ _ _ _ _ (second_word l w x s r val t) = let h : length (flat l) ≤ 1 + weight s + weight r = few_words l (Some x) None s r t in one_more (length (flat l)) 1 (weight s) (weight r) h
few_words _ _ _ _ _ (strict_form l form v a b r m t) =
    let h : length (flat l) ≤ half a + half b + 0 + weight r = few_words l a b None r t in
    let k : length form ≤ 2 = form_length (strict_given v) form m in
    let whole : length form + length (flat l) ≤ half a + half b + 2 + weight r = omega (arith, h, k) in
    subst (λ (n : ℕ). n ≤ half a + half b + 2 + weight r) (sym (length-append form (flat l))) whole
few_words _ _ _ _ _ (save_form l form v a b s m t) =
    let h : length (flat l) ≤ half a + half b + weight s + 0 = few_words l a b s None t in
    let k : length form ≤ 2 = form_length (save_given v) form m in
    let whole : length form + length (flat l) ≤ half a + half b + weight s + 2 = omega (arith, h, k) in
    subst (λ (n : ℕ). n ≤ half a + half b + weight s + 2) (sym (length-append form (flat l))) whole

pub many_unsorted : (words : List Text) → 6 < length words → sorted_of words ≡ None
many_unsorted words h = by (sorted_of words) refl
  where
    by : (o : Option Shape) → sorted_of words ≡ o → o ≡ None
    by None e = refl
    by (Some p) e =
        let g = sorted_so words p e in
        let few = few_words g.groups p.first p.second p.strict p.save g.spells in
        let same : length words ≡ length (flat g.groups) = ap length g.is in
        absurd (omega (arith, h, few, same, half_most p.first, half_most p.second, weight_most p.strict, weight_most p.save))
