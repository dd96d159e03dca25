-- Answers to the goals of `read::+read` that the prover leaves.
use Rattle.std.proofs.Common.{◌≡◌, ℕ, ◌-◌, ◌<◌, List, [], ◌∷◌, ◌++◌, length, Some, None, sym, ap, ap₂, ◌∙◌, arith, refl}
use Rattle.json.specs.Token.{Token}
use Rattle.json.specs.Json.{parse_map, after_end_array, read_key, items, members, value}
use Rattle.json.specs.Reads.{token_of}
use Rattle.json.proofs.Grammar.{value_is, value-begin_array, value-begin_object, read_key-shorter}
use Rattle.serde_json.specs.Data.{null, boolean, number, string, array, object, no_items, no_members, put}
use Rattle.serde_json.specs.Read.{of_json, of_items, converted}
use Rattle.mk_base.specs.declared.json.Json as tree
use Rattle.mk_json.specs.inner.Gathered.{put_all}
use Rattle.mk_json.proofs.Turns.{converted-array, converted-object, item_read, item_refused, items_over, member_read, member_refused, key_refused, members_over, before, before-no_items, push, one_more_item, none_before, items_of-push, one_more_member, number_found, number_missing, number_read, number_refused}
use Rattle.mk_json.proofs.read.+read.Goals as goal

pub read-returns-in_err-token-clause-refused : goal.read-returns-in_err-token-clause-refused
read-returns-in_err-token-clause-refused t c refused =
    let empty : c.args.reader.now ≡ [] = grind arith in
    ap (converted of_json) (ap (value c.args.depth) empty ∙ value_is c.args.depth [])

pub read-returns-then-depth-eq0-clause-refused : goal.read-returns-then-depth-eq0-clause-refused
unfolding value
read-returns-then-depth-eq0-clause-refused t c never =
    let first : c.args.reader.now ≡ token_of c.in_ok-token.token ∷ c.next.new.self = grind arith in
    let none : c.args.depth ≡ 0 = omega arith in
    ap (converted of_json) (ap₂ value none (first ∙ ap (λ k. token_of k ∷ c.next.new.self) c.in-BeginArray.is))

pub read-returns-then-depth-eq0-2-clause-refused : goal.read-returns-then-depth-eq0-2-clause-refused
unfolding value
read-returns-then-depth-eq0-2-clause-refused t c never =
    let first : c.args.reader.now ≡ token_of c.in_ok-token.token ∷ c.next.new.self = grind arith in
    let none : c.args.depth ≡ 0 = omega arith in
    ap (converted of_json) (ap₂ value none (first ∙ ap (λ k. token_of k ∷ c.next.new.self) c.in-BeginObject.is))

pub read-returns-in_err-read_items-in-BeginArray-clause-refused : goal.read-returns-in_err-read_items-in-BeginArray-clause-refused
read-returns-in_err-read_items-in-BeginArray-clause-refused t c refused =
    let first : c.args.reader.now ≡ token_of c.in_ok-token.token ∷ c.next.new.self = grind arith in
    let opened = ap (converted of_json) (ap (value c.args.depth) (first ∙ ap (λ k. token_of k ∷ c.next.new.self) c.in-BeginArray.is) ∙ value-begin_array c.args.depth c.next.new.self (omega arith)) ∙ converted-array (items (value (c.args.depth - 1)) (length c.next.new.self) c.next.new.self) in
    opened ∙ ap (parse_map array) (c.read_items.ensures.refused (grind arith))

pub read-returns-in_err-read_members-in-BeginObject-clause-refused : goal.read-returns-in_err-read_members-in-BeginObject-clause-refused
read-returns-in_err-read_members-in-BeginObject-clause-refused t c refused =
    let first : c.args.reader.now ≡ token_of c.in_ok-token.token ∷ c.next.new.self = grind arith in
    let opened = ap (converted of_json) (ap (value c.args.depth) (first ∙ ap (λ k. token_of k ∷ c.next.new.self) c.in-BeginObject.is) ∙ value-begin_object c.args.depth c.next.new.self (omega arith)) ∙ converted-object (members (value (c.args.depth - 1)) (length c.next.new.self) c.next.new.self) in
    opened ∙ ap (parse_map object) (c.read_members.ensures.refused (grind arith))

pub read-returns-in_ok-of-in-String-clause-ok : goal.read-returns-in_ok-of-in-String-clause-ok
read-returns-in_ok-of-in-String-clause-ok t c =
    let first : c.args.reader.now ≡ token_of c.in_ok-token.token ∷ c.next.new.self = grind arith in
    let is : c.args.reader.now ≡ Token.string c.in-String.text.now ∷ c.next.new.self = grind (arith, first) in
    (string c.in-String.text.now, ap (converted of_json) (ap (value c.args.depth) is ∙ value_is c.args.depth _), ap tree.Text c.in_ok-of-in-String.ensures)

pub read-returns-in-Bool-clause-ok : goal.read-returns-in-Bool-clause-ok
read-returns-in-Bool-clause-ok t c =
    let first : c.args.reader.now ≡ token_of c.in_ok-token.token ∷ c.next.new.self = grind arith in
    let is : c.args.reader.now ≡ Token.boolean c.in-Bool.b ∷ c.next.new.self = grind (arith, first) in
    (boolean c.in-Bool.b, ap (converted of_json) (ap (value c.args.depth) is ∙ value_is c.args.depth _), refl)

pub read-returns-in-Null-clause-ok : goal.read-returns-in-Null-clause-ok
read-returns-in-Null-clause-ok t c =
    let first : c.args.reader.now ≡ token_of c.in_ok-token.token ∷ c.next.new.self = grind arith in
    let is : c.args.reader.now ≡ Token.null ∷ c.next.new.self = grind (arith, first) in
    (null, ap (converted of_json) (ap (value c.args.depth) is ∙ value_is c.args.depth _), refl)

pub read-returns-in-Some-clause-ok : goal.read-returns-in-Some-clause-ok
read-returns-in-Some-clause-ok t c =
    let first : c.args.reader.now ≡ token_of c.in_ok-token.token ∷ c.next.new.self = grind arith in
    let is : c.args.reader.now ≡ Token.number c.in-Number.text.now ∷ c.next.new.self = grind (arith, first) in
    let x = number_found c.in-Some.tree _ c.in-Some.ensures in
    (number x.0, ap (converted of_json) (ap (value c.args.depth) is ∙ value_is c.args.depth _) ∙ number_read c.in-Number.text.now c.next.new.self x.0 x.1, x.2)

pub read-returns-in-None-clause-refused : goal.read-returns-in-None-clause-refused
read-returns-in-None-clause-refused t c refused =
    let first : c.args.reader.now ≡ token_of c.in_ok-token.token ∷ c.next.new.self = grind arith in
    let is : c.args.reader.now ≡ Token.number c.in-Number.text.now ∷ c.next.new.self = grind (arith, first) in
    ap (converted of_json) (ap (value c.args.depth) is ∙ value_is c.args.depth _) ∙ number_refused c.in-Number.text.now c.next.new.self (number_missing _ c.in-None.ensures)

pub read-returns-in-EndObject-clause-refused : goal.read-returns-in-EndObject-clause-refused
read-returns-in-EndObject-clause-refused t c refused =
    let first : c.args.reader.now ≡ token_of c.in_ok-token.token ∷ c.next.new.self = grind arith in
    let none : value c.args.depth c.args.reader.now ≡ None = rw (value_is c.args.depth c.args.reader.now, first) (grind arith) in
    ap (converted of_json) none

pub read-returns-in_ok-read_items-in-BeginArray-clause-ok : goal.read-returns-in_ok-read_items-in-BeginArray-clause-ok
read-returns-in_ok-read_items-in-BeginArray-clause-ok t c =
    let first : c.args.reader.now ≡ token_of c.in_ok-token.token ∷ c.next.new.self = grind arith in
    let opened = ap (converted of_json) (ap (value c.args.depth) (first ∙ ap (λ k. token_of k ∷ c.next.new.self) c.in-BeginArray.is) ∙ value-begin_array c.args.depth c.next.new.self (omega arith)) ∙ converted-array (items (value (c.args.depth - 1)) (length c.next.new.self) c.next.new.self) in
    let found = c.in_ok-read_items-in-BeginArray in
    (array found.ensures.ok.0, opened ∙ ap (parse_map array) found.ensures.ok.1, ap tree.List found.ensures.ok.2)

pub read-returns-in_ok-read_members-in-BeginObject-clause-ok : goal.read-returns-in_ok-read_members-in-BeginObject-clause-ok
read-returns-in_ok-read_members-in-BeginObject-clause-ok t c =
    let first : c.args.reader.now ≡ token_of c.in_ok-token.token ∷ c.next.new.self = grind arith in
    let opened = ap (converted of_json) (ap (value c.args.depth) (first ∙ ap (λ k. token_of k ∷ c.next.new.self) c.in-BeginObject.is) ∙ value-begin_object c.args.depth c.next.new.self (omega arith)) ∙ converted-object (members (value (c.args.depth - 1)) (length c.next.new.self) c.next.new.self) in
    let found = c.in_ok-read_members-in-BeginObject in
    (object found.ensures.ok.0, opened ∙ ap (parse_map object) found.ensures.ok.1, ap tree.Object found.ensures.ok.2)

pub read_items-items-init : goal.read_items-items-init
read_items-items-init t c =
    let all = converted of_items (items (value c.args.depth) (length c.args.reader.now) c.args.reader.now) in
    (length c.args.reader.now, no_items, omega arith, none_before all, omega arith, c.new-found.ensures)

pub read_items-returns-in_err-item-clause-refused : goal.read_items-returns-in_err-item-clause-refused
read_items-returns-in_err-item-clause-refused t c refused =
    let p = value c.args.depth in
    let l = c.items in
    let going : (after_end_array l.reader ≡ None) × (c.take_end_array.new.self ≡ l.reader) = grind arith in
    l.invariant.3 ∙ ap (parse_map (before l.invariant.1)) (item_refused p l.invariant.0 l.reader going.0 (rw (← going.1) (c.read.ensures.refused (grind arith))))

pub read_items-items-preserved : goal.read_items-items-preserved
read_items-items-preserved t c =
    let p = value c.args.depth in
    let l = c.items in
    let n = l.invariant.0 in
    let ds = l.invariant.1 in
    let going : (after_end_array l.reader ≡ None) × (c.take_end_array.new.self ≡ l.reader) = grind arith in
    let done = c.in_ok-item.ensures in
    let d = done.ok.0 in
    let r = c.read.new.reader in
    let less : length r < length l.reader = rw (← going.1) done.shorter in
    let turn = item_read p n l.reader r d (omega (arith, l.invariant.2)) going.0 (rw (← going.1) done.ok.1) in (
      n - 1,
      push ds d,
      omega (arith, l.invariant.2),
      l.invariant.3 ∙ ap (parse_map (before ds)) turn ∙ one_more_item ds d _,
      omega (arith, l.invariant.4),
      c.in_ok-push.ensures.ok ∙ ap₂ (λ (ts : List tree.Json) (t : tree.Json). ts ++ t ∷ []) l.invariant.5 done.ok.2 ∙ sym (items_of-push ds d),
    )

pub read_items-returns-clause-ok : goal.read_items-returns-clause-ok
read_items-returns-clause-ok t c =
    let p = value c.args.depth in
    let l = c.items in
    let ds = l.invariant.1 in
    let r = c.take_end_array.new.self in
    (ds, l.invariant.3 ∙ ap (parse_map (before ds)) (items_over p l.invariant.0 l.reader r l.invariant.2 (grind arith)) ∙ ap (λ es. Some (es, r)) (before-no_items ds), c.trim.ensures ∙ l.invariant.5)

pub read_members-members-init : goal.read_members-members-init
read_members-members-init t c = (length c.args.reader.now, no_members, omega arith, refl, omega arith, ap (put_all []) c.in_ok-found.ensures)

pub read_members-returns-in_err-name-clause-refused : goal.read_members-returns-in_err-name-clause-refused
read_members-returns-in_err-name-clause-refused t c refused =
    let l = c.members in
    l.invariant.3 ∙ key_refused (value c.args.depth) l.invariant.1 l.invariant.0 l.reader c.in_err-name.ensures.value

pub read_members-returns-in_err-member-clause-refused : goal.read_members-returns-in_err-member-clause-refused
read_members-returns-in_err-member-clause-refused t c refused =
    let l = c.members in
    let k = c.in-Some.name.now in
    let s = c.next_key.new.self in
    let named : read_key l.reader ≡ Some (Some k, s) = grind arith in
    l.invariant.3 ∙ member_refused (value c.args.depth) l.invariant.1 l.invariant.0 k l.reader s named (c.read.ensures.refused (grind arith))

pub read_members-members-preserved : goal.read_members-members-preserved
read_members-members-preserved t c =
    let p = value c.args.depth in
    let l = c.members in
    let n = l.invariant.0 in
    let ms = l.invariant.1 in
    let k = c.in-Some.name.now in
    let s = c.next_key.new.self in
    let named : read_key l.reader ≡ Some (Some k, s) = grind arith in
    let done = c.in_ok-member.ensures in
    let d = done.ok.0 in
    let r = c.read.new.reader in
    let less = read_key-shorter l.reader (Some k) s named in
    let lesser = done.shorter in (
      n - 1,
      put k d ms,
      omega (arith, l.invariant.2),
      l.invariant.3 ∙ member_read p ms n k l.reader s r d (omega (arith, l.invariant.2)) named done.ok.1,
      omega (arith, l.invariant.4),
      ap (put_all []) (c.in_ok-push.ensures.ok ∙ ap₂ (λ (key : List ℕ) (t : tree.Json). l.found ++ (key, t) ∷ []) c.in_ok-key.ensures done.ok.2) ∙ one_more_member l.found ms k d l.invariant.5,
    )

pub read_members-returns-clause-ok : goal.read_members-returns-clause-ok
read_members-returns-clause-ok t c =
    let l = c.members in
    let ms = l.invariant.1 in
    (ms, l.invariant.3 ∙ members_over (value c.args.depth) ms l.invariant.0 l.reader c.next_key.new.self l.invariant.2 (grind arith), c.in_ok-gathered.ensures ∙ l.invariant.5)
