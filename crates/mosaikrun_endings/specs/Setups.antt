-- What is said where no plan can be made.
use Rattle.std.specs.Prelude.{ℕ, List, ◌∷◌, ◌++◌, codes}
use Rattle.std.specs.Fmt.{decimal}
use Rattle.mk_meta.specs.declared.fault.MetaFault.{MetaFault}
use Rattle.mk_meta.specs.declared.fault.MetaFault.TheVariants as meta
use Rattle.mk_entities.specs.declared.fault.CreateFault.{CreateFault}
use Rattle.mk_entities.specs.declared.fault.CreateFault.TheVariants as create
use Rattle.mk_connect_pairs.specs.declared.fault.ConnectFault.{ConnectFault}
use Rattle.mk_connect_pairs.specs.declared.fault.ConnectFault.TheVariants as connect
use Rattle.mosaikrun_endings.specs.declared.setup.SetupEnding.{SetupEnding}
use Rattle.mosaikrun_endings.specs.declared.setup.SetupEnding.TheVariants.{Meta, Create, Connect, Unasked, Failed}

-- a text after a space
abbrev pub spaced : List ℕ → List ℕ
spaced text = 32 ∷ text

-- of a reply to `init`, by the simulator's id
abbrev pub text_of_meta : List ℕ → MetaFault → List ℕ
text_of_meta sim meta.NoVersion = codes "meta 1:" ++ spaced sim
text_of_meta sim (meta.Version text) = codes "meta 2:" ++ spaced sim ++ spaced text
text_of_meta sim (meta.BadType text) = codes "meta 3:" ++ spaced sim ++ spaced text
text_of_meta sim meta.NoModels = codes "meta 4:" ++ spaced sim
text_of_meta sim (meta.Model model member) = codes "meta 5:" ++ spaced sim ++ spaced model
    ++ spaced member
text_of_meta sim (meta.TriggerUnknown model name) = codes "meta 6:" ++ spaced sim ++ spaced model
    ++ spaced name
text_of_meta sim meta.Mem = codes "out of memory"

-- of a reply to `create`, by the simulator's id
abbrev pub text_of_create : List ℕ → CreateFault → List ℕ
text_of_create sim (create.Count wanted count) = codes "create 1:" ++ spaced sim
    ++ spaced (decimal wanted) ++ spaced (decimal count)
text_of_create sim (create.NoEid place) = codes "create 2:" ++ spaced sim ++ spaced (decimal place)
text_of_create sim (create.TwiceEid eid) = codes "create 3:" ++ spaced sim ++ spaced eid
text_of_create sim (create.OfType eid) = codes "create 4:" ++ spaced sim ++ spaced eid
text_of_create sim (create.Related eid named) = codes "create 5:" ++ spaced sim ++ spaced eid
    ++ spaced named
text_of_create sim (create.TooMany count) = codes "create 6:" ++ spaced sim
    ++ spaced (decimal count)
text_of_create sim create.Mem = codes "out of memory"

-- of groups, by simulator or model, and of connections, whose entities are named by their full ids
abbrev pub text_of_connect : ConnectFault → List ℕ
text_of_connect (connect.NoEntity id) = codes "connect 1:" ++ spaced id
text_of_connect (connect.NoSourceAttr id attr) = codes "connect 2:" ++ spaced id ++ spaced attr
text_of_connect (connect.NoTargetAttr id attr) = codes "connect 3:" ++ spaced id ++ spaced attr
text_of_connect (connect.NotPublic sim model) = codes "connect 4:" ++ spaced sim ++ spaced model
text_of_connect (connect.UnknownParam model param) = codes "connect 5:" ++ spaced model
    ++ spaced param
text_of_connect (connect.Twice id attr source) = codes "connect 6:" ++ spaced id ++ spaced attr
    ++ spaced source
text_of_connect (connect.NoInitial id attr) = codes "connect 7:" ++ spaced id ++ spaced attr
text_of_connect (connect.TooMany count) = codes "connect 9:" ++ spaced (decimal count)
text_of_connect connect.Mem = codes "out of memory"

-- of the handshake
abbrev pub text_of_setup : SetupEnding → List ℕ
text_of_setup (Meta sim fault) = text_of_meta sim fault
text_of_setup (Create sim fault) = text_of_create sim fault
text_of_setup (Connect fault) = text_of_connect fault
text_of_setup (Unasked sim) = codes "setup: " ++ sim ++ codes " unasked message"
text_of_setup (Failed sim text) = codes "setup: " ++ sim ++ codes " failed: " ++ text
