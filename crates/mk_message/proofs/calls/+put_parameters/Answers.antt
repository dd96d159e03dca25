-- The answers of the cycle `put_parameters`.
use Rattle.std.proofs.Common.{◌≡◌, ℕ, List, ◌∷◌, ◌++◌, ◌-◌, length, take, drop, codes, arith, sym, ap, ◌∙◌, append_assoc}
use Rattle.mk_base.specs.declared.json.Json.{Json}
use Rattle.mk_base.specs.Texts.{text_of}
use Rattle.mk_json.proofs.OfOutlines.{split_first}
use Rattle.mk_message.specs.Written.{time_resolution}
use Rattle.mk_message.specs.inner.Written.{member_text}
use Rattle.mk_message.proofs.Parameters.{parameters_text, following, before_first, in_place, behind_first, on_ok_appended}
use Rattle.mk_message.proofs.calls.+put_parameters.Goals as goal

pub returns-in_ok-extend_from_slice-in-Less : goal.returns-in_ok-extend_from_slice-in-Less
returns-in_ok-extend_from_slice-in-Less t c =
    let ms : List (List ℕ × Json) = c.args.members.now in
    let y : List ℕ × Json = c.first-item.result in
    let whole : ms ≡ y ∷ take (length ms - 1) (drop 1 ms) = split_first ms y (omega arith) c.first-item.is in
    on_ok_appended c.put_following.result c.args.out.now.items c.extend_from_slice-in-Less.new.self.items c.put_following.new.out.items (parameters_text ms) (member_text time_resolution) (following ms)
    c.in_ok-extend_from_slice-in-Less.ensures.items (ap parameters_text whole ∙ before_first y (take (length ms - 1) (drop 1 ms)) (sym c.resolution_order.ensures ∙ c.in-Less.is) ∙ ap (λ (ns : List (List ℕ × Json)). member_text time_resolution ++ following ns) (sym whole)) c.put_following.ensures

pub returns-in_ok-extend_from_slice-in-Equal : goal.returns-in_ok-extend_from_slice-in-Equal
returns-in_ok-extend_from_slice-in-Equal t c =
    let ms : List (List ℕ × Json) = c.args.members.now in
    let y : List ℕ × Json = c.first-item.result in
    let whole : ms ≡ y ∷ take (length ms - 1) (drop 1 ms) = split_first ms y (omega arith) c.first-item.is in
    on_ok_appended c.put_following-in-Equal.result c.args.out.now.items c.extend_from_slice-in-Equal.new.self.items c.put_following-in-Equal.new.out.items (parameters_text ms) (member_text time_resolution) (following (take (length ms - 1) (drop 1 ms)))
    c.in_ok-extend_from_slice-in-Equal.ensures.items (ap parameters_text whole ∙ in_place y (take (length ms - 1) (drop 1 ms)) (sym c.resolution_order.ensures ∙ c.in-Equal.is)) c.put_following-in-Equal.ensures

pub returns-in_ok-extend_from_slice-in-Greater : goal.returns-in_ok-extend_from_slice-in-Greater
returns-in_ok-extend_from_slice-in-Greater t c =
    let ms : List (List ℕ × Json) = c.args.members.now in
    let y : List ℕ × Json = c.first-item.result in
    let whole : ms ≡ y ∷ take (length ms - 1) (drop 1 ms) = split_first ms y (omega arith) c.first-item.is in
    let member = member_text (y.0, text_of y.1) in
    on_ok_appended c.put_parameters.result c.args.out.now.items c.extend_from_slice-in-Greater.new.self.items c.put_parameters.new.out.items (parameters_text ms) (member ++ codes ",") (parameters_text (take (length ms - 1) (drop 1 ms)))
    (c.in_ok-extend_from_slice-in-Greater.ensures.items ∙ ap (λ l. l ++ codes ",") c.in_ok-put_member-in-Greater.ensures ∙ append_assoc c.args.out.now.items member (codes ","))
    (ap parameters_text whole ∙ behind_first y (take (length ms - 1) (drop 1 ms)) (sym c.resolution_order.ensures ∙ c.in-Greater.is) ∙ sym (append_assoc member (codes ",") (parameters_text (take (length ms - 1) (drop 1 ms))))) c.put_parameters.ensures
