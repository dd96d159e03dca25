-- What leaves an open turn open.
use Rattle.std.proofs.Common.{◌≡◌, ℕ, true, Option, Some, None, is_some, option_map, refl}
use Rattle.mk_plan.specs.declared.Plan.{Plan}
use Rattle.mk_plan.specs.declared.Item.{Item}
use Rattle.mk_plan.specs.declared.Item.TheVariants.{Step, GetData, Answer, Refuse}
use Rattle.mk_plan.specs.Journals.{View, OpenTurn, open_after, told_more}

mapped_some : (f : OpenTurn → OpenTurn) (o : Option OpenTurn) → is_some o ≡ true → is_some (option_map f o) ≡ true
mapped_some f None h = h
mapped_some f (Some T) h = refl

-- an item leaves an open turn open
pub stays_open : (P : Plan) (V : View) (s : ℕ) (item : Item) → is_some (V.open_at s) ≡ true → is_some (open_after P V s item) ≡ true
stays_open P V s (Step x ins advance) h = refl
stays_open P V s (GetData wants) h = mapped_some (told_more (GetData wants)) (V.open_at s) h
stays_open P V s (Answer id content) h = mapped_some (told_more (Answer id content)) (V.open_at s) h
stays_open P V s (Refuse id reason) h = mapped_some (told_more (Refuse id reason)) (V.open_at s) h
