-- How a journal is shown to an onlooker: batch by batch, as it grows.
use Rattle.std.specs.Prelude.{◌≡◌, Bool, true, List, [], ◌∷◌, ◌++◌, Option, Some, None, drop, flat_map}
use Rattle.mk_base.specs.declared.SimNo.{SimNo}
use Rattle.mk_base.specs.Lists.{Each}
use Rattle.mk_plan.specs.declared.Plan.{Plan}
use Rattle.mk_plan.specs.declared.Message.{Message}
use Rattle.mk_plan.specs.declared.Entry.{Entry}
use Rattle.mk_plan.specs.declared.Entry.TheVariants.{Got}
use Rattle.mk_plan.specs.declared.Journal.{Journal}
use Rattle.mk_plan.specs.Journals.{arrivals}
use Rattle.mk_plan.specs.Messages.{is_message_in_range}

-- the numbers of each message among the entries may be written
abbrev pub AreInRange : List Entry → Type 0
AreInRange J = (H : List Entry) (s : SimNo) (m : Message) (more : List Entry)
    → J ≡ H ++ Got s m ∷ more → is_message_in_range m ≡ true

-- what a journal gets between two looks: no entry but the first is a message
abbrev pub IsBatch : List Entry → Type 0
IsBatch fresh = arrivals (drop 1 fresh) ≡ []

-- the journal has got items alone
abbrev pub AddsItems : List Entry → List Entry → Type 0
AddsItems J K = (items : List Entry) × (K ≡ J ++ items) × (arrivals items ≡ [])

-- the journal has got a batch
abbrev pub AddsBatch : List Entry → List Entry → Type 0
AddsBatch J K = (batch : List Entry) × (K ≡ J ++ batch) × IsBatch batch

-- the batches were shown one after the other
abbrev pub Saw : {O : Type 0} → (O → Plan → List Entry → Bool → O → Type 0) → Plan → Bool
    → List (List Entry) → O → O → Type 0
Saw looks P pause [] old new = new ≡ old
Saw {O} looks P pause (batch ∷ batches) old new = (mid : O) × looks old P batch pause mid
    × Saw looks P pause batches mid new

-- from J on to K the journal was shown batch by batch
pub record IsShownOn {O : Type 0} (looks : O → Plan → List Entry → Bool → O → Type 0) (P : Plan)
    (pause : Bool) (J K : List Entry) (old new : O) : Type 0 where
  pub batches : List (List Entry)
  pub each : Each IsBatch batches
  pub all : K ≡ J ++ flat_map (λ batch. batch) batches
  pub saw : Saw looks P pause batches old new

-- the whole journal was shown: first what was there before anything was heard, and the items that
-- were sent then; and from there on batch by batch
pub record IsShown {O : Type 0} (looks : O → Plan → List Entry → Bool → O → Type 0) (P : Plan)
    (pause : Bool) (had J : List Entry) (old new : O) : Type 0 where
  pub items : List Entry
  pub unheard : arrivals items ≡ []
  pub batches : List (List Entry)
  pub each : Each IsBatch batches
  pub all : J ≡ (had ++ items) ++ flat_map (λ batch. batch) batches
  pub saw : Saw looks P pause ((had ++ items) ∷ batches) old new

-- the same where there is a plan with a journal; nothing was shown where there is none
abbrev pub IsShownIn : {O : Type 0} → (O → Plan → List Entry → Bool → O → Type 0) → Bool
    → Option Plan → Option Journal → O → O → Type 0
IsShownIn looks pause (Some P) (Some J) old new = IsShown looks P pause [] J.entries old new
IsShownIn looks pause (Some P) None old new = new ≡ old
IsShownIn looks pause None journal old new = new ≡ old
