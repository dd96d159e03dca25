-- Who is to blame, one simulator more at a time; that somebody is; and that one verdict comes of
-- two journals.
use Rattle.std.proofs.Common.{◌≡◌, ℕ, ◌+◌, ◌<◌, Bool, true, false, List, [], ◌∷◌, ◌++◌, length, ◌⊎◌, inl, inr, refl, sym, ap, ◌∙◌, subst, arith, true≢false}
use Rattle.std.proofs.lemmas.Bool.{cases_lt}
use Rattle.mk_base.specs.Lists.{IsIn}
use Rattle.mk_base.proofs.Lists.{some_same, in_front, in_back, in_either, in_each, each_in}
use Rattle.mk_plan.specs.declared.Plan.{Plan}
use Rattle.mk_plan.specs.declared.Entry.{Entry}
use Rattle.mk_plan.specs.Plans.{sim_count, IsValidPlan}
use Rattle.mk_plan.specs.Acts.{Said}
use Rattle.mk_plan.specs.Journals.{got}
use Rattle.mk_plan.specs.Orderly.{IsOrderly}
use Rattle.mk_plan.specs.Agreement.{IsFinished}
use Rattle.mk_order.proofs.Going.{same_runs}
use Rattle.mk_blame.specs.declared.verdict.Blamed.{Blamed}
use Rattle.mk_blame.specs.declared.verdict.Verdict.{Verdict}
use Rattle.mk_blame.specs.declared.verdict.Verdict.TheVariants as verdicts
use Rattle.mk_blame.specs.Talks.{talk, messages, last_step}
use Rattle.mk_blame.specs.Verdicts.{IsBlamed, IsBlamedBy, AreInOrder, AreBlamed, IsVerdict}
use Rattle.mk_blame.specs.inner.Parted.{MessagesAlike, JudgedOf, IsJudged}
use Rattle.mk_blame.proofs.Parts.{same_alike, one_part}
use Rattle.mk_blame.proofs.Talking.{talk_is}

below : (j i : ℕ) → j < i + 1 → (j < i) ⊎ (j ≡ i)
below j i h = elim (cases_lt j i) [ inl low ↦ inl low | inr high ↦ inr (omega (arith, h, high)) ]

order_push : (bs : List Blamed) (b : Blamed) → AreInOrder bs → ((c : Blamed) → IsIn c bs → c.sim.0 < b.sim.0) → AreInOrder (bs ++ b ∷ [])
order_push [] b rises less = (tt, tt)
order_push (c ∷ bs) b rises less = (
  each_in (λ (d : Blamed). c.sim.0 < d.sim.0) (bs ++ b ∷ []) (λ d inside. elim (in_either d bs (b ∷ []) inside) [
    | inl old ↦ in_each (λ (e : Blamed). c.sim.0 < e.sim.0) d bs rises.0 old
    | inr (inl new) ↦ subst (λ (e : Blamed). c.sim.0 < e.sim.0) (sym new) (less c (inl refl))
    | inr (inr none) ↦ absurd none
  ]),
  order_push bs b rises.1 (λ d inside. less d (inr inside)),
)

module _ (J K : List Entry) where
  module _ (i : ℕ) (equal : Bool) (bs new : List Blamed) (before : IsJudged J K i equal bs) where
    -- a simulator whose talks are equal
    pub judged_same : JudgedOf (talk J i) (talk K i) i bs true new → IsJudged J K (i + 1) equal new
    judged_same h = subst (IsJudged J K (i + 1) equal) (sym h.1) (record {
      same = λ e j low. elim (below j i low) [ inl less ↦ before.same e j less | inr is ↦ subst (λ (n : ℕ). talk J n ≡ talk K n) (sym is) h.0 ];
      differ = λ e. let t = before.differ e in (t.0, (let low = t.1 in omega (arith, low)), t.2);
      each = λ b inside. let t = before.each b inside in ((let low = t.0 in omega (arith, low)), t.1);
      alike = λ j low. elim (below j i low) [ inl less ↦ before.alike j less | inr is ↦ inl (subst (λ (n : ℕ). MessagesAlike (talk J n) (talk K n)) (sym is) (same_alike (talk J i) (talk K i) h.0)) ];
      in_order = before.in_order;
    })

    -- and one whose talks differ
    pub judged_other : JudgedOf (talk J i) (talk K i) i bs false new → IsJudged J K (i + 1) false new
    judged_other h = elim h.1 [
      | inl none ↦ subst (IsJudged J K (i + 1) false) (sym none.0) (record {
        same = λ e. absurd (true≢false (sym e));
        differ = λ e. (i, omega arith, h.0);
        each = λ b inside. let t = before.each b inside in ((let low = t.0 in omega (arith, low)), t.1);
        alike = λ j low. elim (below j i low) [ inl less ↦ before.alike j less | inr is ↦ inl (subst (λ (n : ℕ). MessagesAlike (talk J n) (talk K n)) (sym is) none.1) ];
        in_order = before.in_order;
      })
      | inr (b, is, at, blamed) ↦ subst (IsJudged J K (i + 1) false) (sym is) (record {
        same = λ e. absurd (true≢false (sym e));
        differ = λ e. (i, omega arith, h.0);
        each = λ c inside. elim (in_either c bs (b ∷ []) inside) [
          | inl old ↦ let t = before.each c old in ((let low = t.0 in omega (arith, low)), t.1)
          | inr (inl mine) ↦ subst (λ (d : Blamed). (d.sim.0 < i + 1) × IsBlamed J K d) (sym mine) (omega (arith, at), subst (λ (n : ℕ). IsBlamedBy (talk J n) (talk K n) b) (sym at) blamed)
          | inr (inr none) ↦ absurd none
        ];
        alike = λ j low. elim (below j i low) [
          | inl less ↦ elim (before.alike j less) [ inl same ↦ inl same | inr t ↦ inr (t.0, in_front t.0 bs (b ∷ []) t.1, t.2) ]
          | inr here ↦ inr (b, in_back b bs (b ∷ []) (inl refl), at ∙ sym here)
        ];
        in_order = order_push bs b before.in_order (λ c inside. let low = (before.each c inside).0 in omega (arith, low, at));
      })
    ]

  -- the same by what a simulator's talks are found to be
  module _ (i : ℕ) (equal now found : Bool) (bs new : List Blamed) (xs ys : List Said) (before : IsJudged J K i equal bs) (h : JudgedOf xs ys i bs found new) (one : xs ≡ talk J i) (other : ys ≡ talk K i) where
    judged : JudgedOf (talk J i) (talk K i) i bs found new
    judged = subst (λ (l : List Said). JudgedOf (talk J i) l i bs found new) other (subst (λ (l : List Said). JudgedOf l ys i bs found new) one h)

    pub judged_yes : found ≡ true → now ≡ equal → IsJudged J K (i + 1) now new
    judged_yes good is = subst (λ (b : Bool). IsJudged J K (i + 1) b new) (sym is) (judged_same i equal bs new before (subst (λ (b : Bool). JudgedOf (talk J i) (talk K i) i bs b new) good judged))

    pub judged_no : found ≡ false → now ≡ false → IsJudged J K (i + 1) now new
    judged_no bad is = subst (λ (b : Bool). IsJudged J K (i + 1) b new) (sym is) (judged_other i equal bs new before (subst (λ (b : Bool). JudgedOf (talk J i) (talk K i) i bs b new) bad judged))

-- somebody is to blame where some talks differ, by what holds of two finished runs
module _ (P : Plan) (valid : IsValidPlan P) (J K : List Entry) (o : IsOrderly P J) (f : IsFinished P J) (p : IsOrderly P K) (g : IsFinished P K) where
  alike_runs : ((i : ℕ) → i < sim_count P → MessagesAlike (talk J i) (talk K i)) → (i : ℕ) → i < sim_count P → talk J i ≡ talk K i
  alike_runs alike i low =
      talk_is P valid J o f i low
      ∙ same_runs P valid (got J) (got K) (λ j h. (f j h).ended) (λ j h. (g j h).ended)
      (λ j h w u v m n a b. alike j h w u v m n (talk_is P valid J o f j h ∙ a) (talk_is P valid K p g j h ∙ b)) i
      ∙ sym (talk_is P valid K p g i low)

  pub judged_blamed : (n : ℕ) (bs : List Blamed) → n ≡ sim_count P → IsJudged J K n false bs → IsVerdict P J K (verdicts.Blamed bs)
  judged_blamed n bs is judged =
      let all : IsJudged J K (sim_count P) false bs = subst (λ (k : ℕ). IsJudged J K k false bs) is judged in (
        all.differ refl,
        record {
          each = all.each;
          all = λ i low blame. elim (all.alike i low) [
            | inl alike ↦ let q = blame.parts in absurd (q.differ (alike blame.before q.more q.other blame.message blame.other q.first q.second))
            | inr t ↦ t
          ];
          in_order = all.in_order;
        },
        λ none. let d = all.differ refl in d.2 (alike_runs (λ i low. elim (all.alike i low) [
          | inl alike ↦ alike
          | inr t ↦ absurd (subst (λ (l : List Blamed). IsIn t.0 l) none t.1)
        ]) d.0 d.1),
      )

  pub judged_equal : (n : ℕ) (bs : List Blamed) → n ≡ sim_count P → IsJudged J K n true bs → IsVerdict P J K verdicts.Equal
  judged_equal n bs is judged = (subst (λ (k : ℕ). IsJudged J K k true bs) is judged).same refl

-- ---- one verdict

same_blamed : (xs ys : List Said) (b c : Blamed) → IsBlamedBy xs ys b → IsBlamedBy xs ys c → b.sim.0 ≡ c.sim.0 → b ≡ c
same_blamed xs ys b c p q sim =
    let t = one_part xs ys p.before q.before b.first b.second c.first c.second p.parts q.parts in
    let place : b.place ≡ c.place = p.place ∙ ap (λ l. length (messages l)) t.0 ∙ sym q.place in
    let at : b.at ≡ c.at = some_same (sym p.step ∙ ap last_step t.0 ∙ q.step) in
    λ i. record { sim = record { 0 = sim i }; place = place i; at = at i; first = t.1 i; second = t.2 i }

same_members : (bs cs : List Blamed) → AreInOrder bs → AreInOrder cs → ((b : Blamed) → IsIn b bs → IsIn b cs) → ((c : Blamed) → IsIn c cs → IsIn c bs) → bs ≡ cs
same_members [] [] o p there back = refl
same_members [] (c ∷ cs) o p there back = absurd (back c (inl refl))
same_members (b ∷ bs) [] o p there back = absurd (there b (inl refl))
same_members (b ∷ bs) (c ∷ cs) o p there back =
    let head : b ≡ c = first (there b (inl refl)) (back c (inl refl)) in
    λ i. head i ∷ same_members bs cs o.1 p.1
    (λ x inside. elim (there x (inr inside)) [ inl e ↦ absurd (self x b (in_each (λ (d : Blamed). b.sim.0 < d.sim.0) x bs o.0 inside) (e ∙ sym head)) | inr more ↦ more ])
    (λ x inside. elim (back x (inr inside)) [ inl e ↦ absurd (self x c (in_each (λ (d : Blamed). c.sim.0 < d.sim.0) x cs p.0 inside) (e ∙ head)) | inr more ↦ more ]) i
  where
    self : (x y : Blamed) → y.sim.0 < x.sim.0 → x ≡ y → ⊥
    self x y less e = let n = ap (λ (d : Blamed). d.sim.0) e in omega (arith, less, n)

    first : IsIn b (c ∷ cs) → IsIn c (b ∷ bs) → b ≡ c
    first (inl e) h = e
    first (inr m) (inl e) = sym e
    first (inr m) (inr k) =
        let less = in_each (λ (d : Blamed). c.sim.0 < d.sim.0) b cs p.0 m in
        let more = in_each (λ (d : Blamed). b.sim.0 < d.sim.0) c bs o.0 k in
        absurd (omega (arith, less, more))

one_way : (J K : List Entry) (n : ℕ) (bs cs : List Blamed) → AreBlamed J K n bs → AreBlamed J K n cs → (b : Blamed) → IsIn b bs → IsIn b cs
one_way J K n bs cs p q b inside =
    let mine = p.each b inside in
    let t = q.all b.sim.0 mine.0 (record { before = mine.1.before; message = b.first; other = b.second; parts = mine.1.parts }) in
    let theirs = subst (λ (i : ℕ). IsBlamedBy (talk J i) (talk K i) t.0) t.2 (q.each t.0 t.1).1 in
    subst (λ (d : Blamed). IsIn d cs) (sym (same_blamed (talk J b.sim.0) (talk K b.sim.0) b t.0 mine.1 theirs (sym t.2))) t.1

pub one_verdict : (P : Plan) (J K : List Entry) (v w : Verdict) → IsVerdict P J K v → IsVerdict P J K w → v ≡ w
one_verdict P J K verdicts.Equal verdicts.Equal a b = refl
one_verdict P J K verdicts.Equal (verdicts.Blamed cs) a b = absurd (b.0.2 (a b.0.0 b.0.1))
one_verdict P J K (verdicts.Blamed bs) verdicts.Equal a b = absurd (a.0.2 (b a.0.0 a.0.1))
one_verdict P J K (verdicts.Blamed bs) (verdicts.Blamed cs) a b = ap verdicts.Blamed (same_members bs cs a.1.in_order b.1.in_order (one_way J K (sim_count P) bs cs a.1 b.1) (one_way J K (sim_count P) cs bs b.1 a.1))
