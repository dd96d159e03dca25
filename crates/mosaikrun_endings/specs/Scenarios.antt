-- What is said of a file that is no scenario.
use Rattle.std.specs.Prelude.{ℕ, List, ◌++◌, codes}
use Rattle.std.specs.Fmt.{decimal}
use Rattle.mk_scenario_keys.specs.declared.fault.ScenarioFault.{ScenarioFault}
use Rattle.mk_scenario_keys.specs.declared.fault.ScenarioFault.TheVariants.{NotToml, Missing, WrongKind, UnknownKey, OutOfRange, UnknownSim, UnknownGroup, TwoKinds, Uneven, Taken, Mem}

abbrev pub text_of_scenario : ScenarioFault → List ℕ
text_of_scenario NotToml = codes "scenario 1: not TOML"
text_of_scenario (Missing key) = codes "scenario 2: missing " ++ key
text_of_scenario (WrongKind key) = codes "scenario 3: wrong kind " ++ key
text_of_scenario (UnknownKey key) = codes "scenario 4: unknown key " ++ key
text_of_scenario (OutOfRange key value) = codes "scenario 5: out of range " ++ key ++ codes " "
    ++ value
text_of_scenario (UnknownSim key sim) = codes "scenario 6: unknown simulator " ++ sim
    ++ codes " at " ++ key
text_of_scenario (UnknownGroup key group) = codes "scenario 7: unknown group " ++ group
    ++ codes " at " ++ key
text_of_scenario (TwoKinds table) = codes "scenario 8: two kinds at " ++ table
text_of_scenario (Uneven table left right) = codes "scenario 9: " ++ decimal left ++ codes " to "
    ++ decimal right ++ codes " entities at " ++ table
text_of_scenario (Taken group) = codes "scenario 10: group " ++ group ++ codes " taken"
text_of_scenario Mem = codes "out of memory"
