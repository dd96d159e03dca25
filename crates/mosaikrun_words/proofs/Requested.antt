-- The request that is found is what the words are, and what they are is found.
use Rattle.std.proofs.Common.{◌≡◌, ◌↔◌, ℕ, true, false, cond, List, [], ◌∷◌, ◌++◌, Option, Some, None, option_map, option_and_then, refl, sym, ap, ◌∙◌, subst, codes, inl, inr}
use Rattle.std.proofs.lemmas.Slice.Eq.{bytes_eq-Decides}
use Rattle.mk_base.specs.Lists.{Each, same_text}
use Rattle.mosaikrun_words.specs.declared.reading.Found.{Found}
use Rattle.mosaikrun_words.specs.declared.reading.Two.{Two}
use Rattle.mosaikrun_words.specs.declared.words.Pace.{Pace}
use Rattle.mosaikrun_words.specs.declared.request.Command.{Command}
use Rattle.mosaikrun_words.specs.declared.request.Command.TheVariants as command
use Rattle.mosaikrun_words.specs.declared.request.Request.{Request}
use Rattle.mosaikrun_words.specs.declared.request.PairCommand.{PairCommand}
use Rattle.mosaikrun_words.specs.declared.request.PairCommand.TheVariants.{Migrate, Watch, Blame}
use Rattle.mosaikrun_words.specs.declared.request.FileCommand.TheVariants.{Replay, Check, Pair}
use Rattle.mosaikrun_words.specs.declared.request.Request.TheVariants.{Files, Run, Resume, Paced, Demo}
use Rattle.mosaikrun_words.specs.declared.words.TheConstants.{COMMANDS}
use Rattle.mosaikrun_words.specs.inner.Arranged.{alone, number_in, one_word, only_word, two_words, word_with}
use Rattle.mosaikrun_words.specs.inner.Asked.{check_of, command_of, demo_of, have_words, number_given, pace_in, pace_of, paced_in, paced_of, pair_of, replay_in, replay_of, request_among, request_by, request_of, resume_in, resume_of, resume_with, run_of, word_of}
use Rattle.mosaikrun_words.specs.inner.Sorted.{Shape, sorted_of}
use Rattle.mosaikrun_words.specs.Numbers.{IsNumber}
use Rattle.mosaikrun_words.specs.Requests.{IsNumberGiven, IsRequest, IsSpelled, if_given, is_check, is_demo, is_paced, is_pair, is_replay, is_resume, is_run, missing, pair_word, there}
use Rattle.mosaikrun_words.specs.Words.{Given, Text, is_value}
use Rattle.mosaikrun_words.proofs.Groups.{AreGroups, sorted_is, sorted_so, spelled_so}
use Rattle.mosaikrun_words.proofs.Spelled.{AreValues, IsFound, found_is, found_of, number_from, number_is, only_is, only_of, two_is, two_of, word_with_from, word_with_is}
use Rattle.mk_base.specs.Limits.{largest_demo, most_milliseconds}
use Rattle.mk_base.proofs.Items.{each_append}
use Rattle.mk_base.proofs.Bools.{both_hold}

-- a request and the word of its command before the rest
abbrev IsRest : Command → List Text → Request → Type 0
IsRest c rest R = (command_of R ≡ c) × IsRequest (word_of c ∷ rest) R

spelled_by : (word name : Text) (rest : List Text) (f : Found) → IsFound name rest f → IsSpelled word (f.word ∷ []) (if_given name f.value) (word ∷ rest)
spelled_by word name rest f found = record { rest = rest; is = refl; spelled = found.spelled; plain_values = (found.word, tt); given_values = found.value }

spelled_alone : (word : Text) (rest : List Text) (t : Text) → rest ≡ t ∷ [] → is_value t ≡ true → IsSpelled word (t ∷ []) [] (word ∷ rest)
spelled_alone word rest t is h = record { rest = rest; is = refl; spelled = inl is; plain_values = (h, tt); given_values = tt }

each_split : {X : Type 0} (P : X → Type 0) (xs ys : List X) → Each P (xs ++ ys) → Each P xs × Each P ys
each_split P [] ys h = (tt, h)
each_split P (x ∷ xs) ys h = let t = each_split P xs ys h.1 in ((h.0, t.0), t.1)

-- what is found is right

run_right : (rest : List Text) (R : Request) → run_of rest ≡ Some R → IsRest command.Run rest R
run_right rest R e = by (one_word (codes "record") rest) refl e
  where
    by : (o : Option Found) → one_word (codes "record") rest ≡ o → option_map (λ (f : Found). Run f.word f.value) o ≡ Some R → IsRest command.Run rest R
    by None is h = cc
    by (Some f) is h =
        let same : Run f.word f.value ≡ R = cc in
        subst (IsRest command.Run rest) same (refl, is_run f.word f.value (spelled_by (codes "run") (codes "record") rest f (found_is (codes "record") rest f is)))

resume_right : (rest : List Text) (R : Request) → resume_of rest ≡ Some R → IsRest command.Resume rest R
resume_right rest R e = by (sorted_of rest) refl e
  where
    others : (a b : Text) (r : Option Text) → AreGroups rest (record { first = Some a; second = Some b; strict = None; save = r }) → (f : Option Found) → word_with a r ≡ f → (g : Option Found) → alone b ≡ g → option_and_then (λ (x : Found). option_map (λ (y : Found). Resume x.word y.word x.value) g) f ≡ Some R → IsRest command.Resume rest R
    others a b r groups None is g alone_is k = cc
    others a b r groups (Some f) is None alone_is k = cc
    others a b r groups (Some f) is (Some g) alone_is k =
        let one = word_with_is (codes "record") a r f is in
        let two = word_with_is (codes "record") b None g alone_is in
        let same : Resume f.word g.word f.value ≡ R = cc in
        let spelled : IsSpelled (codes "resume") (a ∷ b ∷ []) (if_given (codes "record") r) (codes "resume" ∷ rest) = record { rest = rest; is = refl; spelled = spelled_so rest a b None r groups; plain_values = (one.word, (two.word, tt)); given_values = one.value } in
        let named : Resume a b r ≡ Resume f.word g.word f.value = sym (ap (λ (x : Found). Resume x.word g.word x.value) one.is ∙ ap (λ (x : Found). Resume a x.word r) two.is) in
        subst (IsRest command.Resume rest) (named ∙ same) (refl, is_resume a b r spelled)

    by_words : (a b s r : Option Text) → AreGroups rest (record { first = a; second = b; strict = s; save = r }) → resume_in a b s (record { first = a; second = b; strict = s; save = r }) ≡ Some R → IsRest command.Resume rest R
    by_words None b s r groups k = cc
    by_words (Some a) None s r groups k = cc
    by_words (Some a) (Some b) (Some v) r groups k = cc
    by_words (Some a) (Some b) None r groups k = others a b r groups (word_with a r) refl (alone b) refl k

    by : (o : Option Shape) → sorted_of rest ≡ o → option_and_then (λ (p : Shape). resume_in p.first p.second p.strict p) o ≡ Some R → IsRest command.Resume rest R
    by None is k = cc
    by (Some p) is k = by_words p.first p.second p.strict p.save (sorted_so rest p is) k

-- numbers that are given are written so
given_is : (least most : ℕ) (t : Option Text) (n : Option ℕ) → number_given least most t ≡ Some n → IsNumberGiven least most t n
given_is least most None n e = let same : None ≡ n = cc in subst (IsNumberGiven least most None) same missing
given_is least most (Some text) n e = by (number_in least most text) refl e
  where
    by : (o : Option ℕ) → number_in least most text ≡ o → option_map (λ k. Some k) o ≡ Some n → IsNumberGiven least most (Some text) n
    by None is k = cc
    by (Some m) is k = let same : Some m ≡ n = cc in subst (IsNumberGiven least most (Some text)) same (there text m (number_is least most text m is))

given_from : (least most : ℕ) (t : Option Text) (n : Option ℕ) → IsNumberGiven least most t n → number_given least most t ≡ Some n
given_from least most _ _ missing = refl
given_from least most _ _ (there text n is) = ap (option_map (λ k. Some k)) (number_from least most text n is)

-- a pace that is found is written so
record IsPace (b : Text) (s : Option Text) (p : Pace) : Type 0 where
  value : is_value b ≡ true
  values : AreValues (codes "strict") s
  factor : IsNumber 1 most_milliseconds p.factor b
  strict : IsNumberGiven 0 most_milliseconds s p.strict

pace_is : (b : Text) (s : Option Text) (p : Pace) → pace_of b s ≡ Some p → IsPace b s p
pace_is b s p e = by (word_with b s) refl e
  where
    numbers : (f : Found) → word_with b s ≡ Some f → (n : Option ℕ) → number_in 1 most_milliseconds f.word ≡ n → (m : Option (Option ℕ)) → number_given 0 most_milliseconds f.value ≡ m → option_and_then (λ k. option_map (λ l. let q : Pace = record { factor = k; strict = l } in q) m) n ≡ Some p → IsPace b s p
    numbers f is None n_is m m_is k = cc
    numbers f is (Some n) n_is None m_is k = cc
    numbers f is (Some n) n_is (Some m) m_is k =
        let found = word_with_is (codes "strict") b s f is in
        let made : Pace = record { factor = n; strict = m } in
        let same : made ≡ p = cc in
        subst (IsPace b s) same (record { value = found.word; values = found.value; factor = number_is 1 most_milliseconds b n (sym (ap (λ (x : Found). number_in 1 most_milliseconds x.word) found.is) ∙ n_is); strict = given_is 0 most_milliseconds s m (sym (ap (λ (x : Found). number_given 0 most_milliseconds x.value) found.is) ∙ m_is) })

    by : (o : Option Found) → word_with b s ≡ o → option_and_then pace_in o ≡ Some p → IsPace b s p
    by None is k = cc
    by (Some f) is k = numbers f is (number_in 1 most_milliseconds f.word) refl (number_given 0 most_milliseconds f.value) refl k

paced_right : (rest : List Text) (R : Request) → paced_of rest ≡ Some R → IsRest command.Paced rest R
paced_right rest R e = by (sorted_of rest) refl e
  where
    others : (a b : Text) (s r : Option Text) → AreGroups rest (record { first = Some a; second = Some b; strict = s; save = r }) → (p : Option Pace) → pace_of b s ≡ p → (f : Option Found) → word_with a r ≡ f → option_and_then (λ (x : Pace). option_map (λ (y : Found). Paced y.word x.factor x.strict y.value) f) p ≡ Some R → IsRest command.Paced rest R
    others a b s r groups None p_is f f_is k = cc
    others a b s r groups (Some p) p_is None f_is k = cc
    others a b s r groups (Some p) p_is (Some f) f_is k =
        let one = word_with_is (codes "record") a r f f_is in
        let pace = pace_is b s p p_is in
        let same : Paced f.word p.factor p.strict f.value ≡ R = cc in
        let values = each_append (λ (g : Given). is_value g.1 ≡ true) (if_given (codes "strict") s) (if_given (codes "record") r) pace.values one.value in
        let spelled : IsSpelled (codes "paced") (a ∷ b ∷ []) (if_given (codes "strict") s ++ if_given (codes "record") r) (codes "paced" ∷ rest) = record { rest = rest; is = refl; spelled = spelled_so rest a b s r groups; plain_values = (one.word, (pace.value, tt)); given_values = values } in
        let named : Paced a p.factor p.strict r ≡ Paced f.word p.factor p.strict f.value = sym (ap (λ (x : Found). Paced x.word p.factor p.strict x.value) one.is) in
        subst (IsRest command.Paced rest) (named ∙ same) (refl, is_paced a b p.factor s p.strict r spelled pace.factor pace.strict)

    by_words : (a b s r : Option Text) → AreGroups rest (record { first = a; second = b; strict = s; save = r }) → paced_in a b (record { first = a; second = b; strict = s; save = r }) ≡ Some R → IsRest command.Paced rest R
    by_words None b s r groups k = cc
    by_words (Some a) None s r groups k = cc
    by_words (Some a) (Some b) s r groups k = others a b s r groups (pace_of b s) refl (word_with a r) refl k

    by : (o : Option Shape) → sorted_of rest ≡ o → option_and_then (λ (p : Shape). paced_in p.first p.second p) o ≡ Some R → IsRest command.Paced rest R
    by None is k = cc
    by (Some p) is k = by_words p.first p.second p.strict p.save (sorted_so rest p is) k

replay_right : (rest : List Text) (R : Request) → replay_of rest ≡ Some R → IsRest command.Replay rest R
replay_right rest R e = by (one_word (codes "order") rest) refl e
  where
    numbered : (f : Found) → IsFound (codes "order") rest f → (text : Text) → f.value ≡ Some text → (n : Option ℕ) → number_in 0 4294967295 text ≡ n → option_map (λ k. Files (Replay f.word (Some k))) n ≡ Some R → IsRest command.Replay rest R
    numbered f found text given None is h = cc
    numbered f found text given (Some k) is h =
        let same : Files (Replay f.word (Some k)) ≡ R = cc in
        subst (IsRest command.Replay rest) same (
          refl,
          is_replay f.word (Some text) (Some k)
              (subst (λ (v : Option Text). IsSpelled (codes "replay") (f.word ∷ []) (if_given (codes "order") v) (codes "replay" ∷ rest)) given (spelled_by (codes "replay") (codes "order") rest f found))
              (there text k (number_is 0 4294967295 text k is)),
        )

    valued : (f : Found) → IsFound (codes "order") rest f → (v : Option Text) → f.value ≡ v → replay_in f.word v ≡ Some R → IsRest command.Replay rest R
    valued f found None given h =
        let same : Files (Replay f.word None) ≡ R = cc in
        subst (IsRest command.Replay rest) same (
          refl,
          is_replay f.word None None
              (subst (λ (v : Option Text). IsSpelled (codes "replay") (f.word ∷ []) (if_given (codes "order") v) (codes "replay" ∷ rest)) given (spelled_by (codes "replay") (codes "order") rest f found))
              missing,
        )
    valued f found (Some text) given h = numbered f found text given (number_in 0 4294967295 text) refl h

    by : (o : Option Found) → one_word (codes "order") rest ≡ o → option_and_then (λ (f : Found). replay_in f.word f.value) o ≡ Some R → IsRest command.Replay rest R
    by None is h = cc
    by (Some f) is h = valued f (found_is (codes "order") rest f is) f.value refl h

check_right : (rest : List Text) (R : Request) → check_of rest ≡ Some R → IsRest command.Check rest R
check_right rest R e = by (only_word rest) refl e
  where
    by : (o : Option Text) → only_word rest ≡ o → option_map (λ s. Files (Check s)) o ≡ Some R → IsRest command.Check rest R
    by None is h = cc
    by (Some t) is h =
        let p = only_is rest t is in
        let same : Files (Check t) ≡ R = cc in
        subst (IsRest command.Check rest) same (refl, is_check t (spelled_alone (codes "check") rest t p.0 p.1))

demo_right : (rest : List Text) (R : Request) → demo_of rest ≡ Some R → IsRest command.Demo rest R
demo_right rest R e = by (only_word rest) refl e
  where
    numbered : (t : Text) → only_word rest ≡ Some t → (n : Option ℕ) → number_in 1 largest_demo t ≡ n → option_map Demo n ≡ Some R → IsRest command.Demo rest R
    numbered t is None number h = cc
    numbered t is (Some k) number h =
        let p = only_is rest t is in
        let same : Demo k ≡ R = cc in
        subst (IsRest command.Demo rest) same (refl, is_demo t k (spelled_alone (codes "demo") rest t p.0 p.1) (number_is 1 largest_demo t k number))

    by : (o : Option Text) → only_word rest ≡ o → option_map Demo (option_and_then (number_in 1 largest_demo) o) ≡ Some R → IsRest command.Demo rest R
    by None is h = cc
    by (Some t) is h = numbered t is (number_in 1 largest_demo t) refl h

pair_right : (c : PairCommand) (rest : List Text) (R : Request) → pair_of c rest ≡ Some R → IsRest (command.Pair c) rest R
pair_right c rest R e = by (two_words rest) refl e
  where
    by : (o : Option Two) → two_words rest ≡ o → option_map (λ (t : Two). Files (Pair c t.first t.second)) o ≡ Some R → IsRest (command.Pair c) rest R
    by None is h = cc
    by (Some t) is h =
        let p = two_is rest t is in
        let same : Files (Pair c t.first t.second) ≡ R = cc in
        subst (IsRest (command.Pair c) rest) same (refl, is_pair c t.first t.second (record { rest = rest; is = refl; spelled = inl p.0; plain_values = (p.1, (p.2, tt)); given_values = tt }))

right : (c : Command) (rest : List Text) (R : Request) → request_by c rest ≡ Some R → IsRest c rest R
right command.Run = run_right
right command.Replay = replay_right
right command.Check = check_right
right command.Demo = demo_right
right command.Resume = resume_right
right command.Paced = paced_right
right (command.Pair c) = pair_right c

among_right : {A : Type 0} (read : A → Text) (commands : List (A × Command)) (word : Text) (rest : List Text) (R : Request) → have_words read commands ≡ true → request_among read commands word rest ≡ Some R → IsRequest (word ∷ rest) R
among_right read [] word rest R all e = cc
among_right read (t ∷ commands) word rest R all e = elim (same_text word (read t.0)) as (λ b. same_text word (read t.0) ≡ b → cond b (request_by t.1 rest) (request_among read commands word rest) ≡ Some R → IsRequest (word ∷ rest) R) [
  | true ↦ λ h k.
      let r = right t.1 rest R k in
      let is : word ≡ word_of t.1 = (bytes_eq-Decides word (read t.0)).0 h ∙ (bytes_eq-Decides (read t.0) (word_of t.1)).0 both.0 in
      subst (λ (w : Text). IsRequest (w ∷ rest) R) (sym is) r.1
  | false ↦ λ h k. among_right read commands word rest R both.1 k
] refl e
  where
    both : (same_text (read t.0) (word_of t.1) ≡ true) × (have_words read commands ≡ true)
    both = both_hold (same_text (read t.0) (word_of t.1)) (have_words read commands) all

-- what is right is found

-- the words are those of the request, which is found by its command
record IsFoundBy (words : List Text) (R : Request) : Type 0 where
  rest : List Text
  is : words ≡ word_of (command_of R) ∷ rest
  found : request_by (command_of R) rest ≡ Some R

found_one : (word name : Text) (w : Text) (v : Option Text) (words : List Text) (s : IsSpelled word (w ∷ []) (if_given name v) words) → one_word name s.rest ≡ Some (record { word = w; value = v })
found_one word name w v words s = found_of name s.rest (record { word = w; value = v }) (record { spelled = s.spelled; word = s.plain_values.0; value = s.given_values })

only_rest : (word w : Text) (words : List Text) (s : IsSpelled word (w ∷ []) [] words) → only_word s.rest ≡ Some w
only_rest word w words s = elim s.spelled [ inl e ↦ ap only_word e ∙ only_of w s.plain_values.0 | inr e ↦ absurd e ]

two_rest : (word a b : Text) (words : List Text) (s : IsSpelled word (a ∷ b ∷ []) [] words) → two_words s.rest ≡ Some (record { first = a; second = b })
two_rest word a b words s = elim s.spelled [ inl e ↦ ap two_words e ∙ two_of a b s.plain_values.0 s.plain_values.1.0 | inr e ↦ absurd e ]

found_by : (words : List Text) (R : Request) → IsRequest words R → IsFoundBy words R
found_by words _ (is_run s f spelled) = record { rest = spelled.rest; is = spelled.is; found = ap (option_map (λ (x : Found). Run x.word x.value)) (found_one (codes "run") (codes "record") s f words spelled) }
found_by words _ (is_resume s r f spelled) =
    let values = spelled.plain_values in
    let sorted = sorted_is spelled.rest s r None f values.0 values.1.0 spelled.spelled in
    record {
      rest = spelled.rest;
      is = spelled.is;
      found = ap (option_and_then (λ (p : Shape). resume_in p.first p.second p.strict p)) sorted
          ∙ ap (option_and_then (λ (x : Found). resume_with x r)) (word_with_from (codes "record") s f values.0 spelled.given_values)
          ∙ ap (option_map (λ (y : Found). Resume s y.word f)) (word_with_from (codes "record") r None values.1.0 tt);
    }
found_by words _ (is_paced s t n u m f spelled number given) =
    let values = spelled.plain_values in
    let sorted = sorted_is spelled.rest s t u f values.0 values.1.0 spelled.spelled in
    let of_options = each_split (λ (g : Given). is_value g.1 ≡ true) (if_given (codes "strict") u) (if_given (codes "record") f) spelled.given_values in
    record {
      rest = spelled.rest;
      is = spelled.is;
      found = ap (option_and_then (λ (p : Shape). paced_in p.first p.second p)) sorted
          ∙ ap (λ (o : Option Found). option_and_then (λ (p : Pace). option_map (λ (x : Found). Paced x.word p.factor p.strict x.value) (word_with s f)) (option_and_then pace_in o)) (word_with_from (codes "strict") t u values.1.0 of_options.0)
          ∙ ap (λ (o : Option ℕ). option_and_then (λ (p : Pace). option_map (λ (x : Found). Paced x.word p.factor p.strict x.value) (word_with s f)) (option_and_then (λ k. option_map (λ l. let q : Pace = record { factor = k; strict = l } in q) (number_given 0 most_milliseconds u)) o)) (number_from 1 most_milliseconds t n number)
          ∙ ap (λ (o : Option (Option ℕ)). option_and_then (λ (p : Pace). option_map (λ (x : Found). Paced x.word p.factor p.strict x.value) (word_with s f)) (option_map (λ l. let q : Pace = record { factor = n; strict = l } in q) o)) (given_from 0 most_milliseconds u m given)
          ∙ ap (option_map (λ (x : Found). Paced x.word n m x.value)) (word_with_from (codes "record") s f values.0 of_options.1);
    }
found_by words _ (is_replay r t n spelled given) = record { rest = spelled.rest; is = spelled.is; found = ap (option_and_then (λ (x : Found). replay_in x.word x.value)) (found_one (codes "replay") (codes "order") r t words spelled) ∙ ordered t n given }
  where
    ordered : (t : Option Text) (n : Option ℕ) → IsNumberGiven 0 4294967295 t n → replay_in r t ≡ Some (Files (Replay r n))
    ordered _ _ missing = refl
    ordered _ _ (there text k is) = ap (option_map (λ m. Files (Replay r (Some m)))) (number_from 0 4294967295 text k is)
found_by words _ (is_check s spelled) = record { rest = spelled.rest; is = spelled.is; found = ap (option_map (λ s. Files (Check s))) (only_rest (codes "check") s words spelled) }
found_by words _ (is_demo t n spelled number) = record { rest = spelled.rest; is = spelled.is; found = ap (λ (o : Option Text). option_map Demo (option_and_then (number_in 1 largest_demo) o)) (only_rest (codes "demo") t words spelled) ∙ ap (option_map Demo) (number_from 1 largest_demo t n number) }
found_by words _ (is_pair c a b spelled) = record { rest = spelled.rest; is = spelled.is; found = ap (option_map (λ (t : Two). Files (Pair c t.first t.second))) (two_rest (pair_word c) a b words spelled) }

-- a command's word finds the command
found_there : (c : Command) (rest : List Text) → request_among (λ name. name.now) COMMANDS (word_of c) rest ≡ request_by c rest
found_there command.Run rest = refl
found_there command.Replay rest = refl
found_there command.Check rest = refl
found_there command.Demo rest = refl
found_there command.Resume rest = refl
found_there command.Paced rest = refl
found_there (command.Pair Migrate) rest = refl
found_there (command.Pair Watch) rest = refl
found_there (command.Pair Blame) rest = refl

pub requested : (words : List Text) (R : Request) → (request_of words ≡ Some R) ↔ IsRequest words R
requested words R = (from words, to)
  where
    from : (words : List Text) → request_of words ≡ Some R → IsRequest words R
    from [] e = cc
    from (word ∷ rest) e = among_right (λ name. name.now) COMMANDS word rest R refl e

    to : IsRequest words R → request_of words ≡ Some R
    to is =
        let f = found_by words R is in
        ap request_of f.is ∙ found_there (command_of R) f.rest ∙ f.found
