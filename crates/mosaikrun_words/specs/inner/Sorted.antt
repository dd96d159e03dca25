-- For proofs alone. The words after a command with two options, sorted.
use Rattle.std.specs.Prelude.{List, [], ◌∷◌, Option, Some, None, option_map, option_and_then, if◌then◌else◌}
use Rattle.mk_base.specs.Lists.{same_text}
use Rattle.mosaikrun_words.specs.declared.sorted.Sorted.{Sorted}
use Rattle.mosaikrun_words.specs.declared.request.OptionName.{OptionName}
use Rattle.mosaikrun_words.specs.declared.request.OptionName.TheVariants as name
use Rattle.mosaikrun_words.specs.inner.Arranged.{long, name_of, start, value_after}
use Rattle.mosaikrun_words.specs.Words.{Text, is_value}

-- what words are: at most two of the command, and the values of options
pub record Shape : Type 0 where
  pub first : Option Text
  pub second : Option Text
  pub strict : Option Text
  pub save : Option Text

abbrev pub nothing : Shape
nothing = record { first = None; second = None; strict = None; save = None }

abbrev pub seen : Sorted → Shape
seen s = record {
  first = option_map (λ v. v.now) s.first;
  second = option_map (λ v. v.now) s.second;
  strict = option_map (λ v. v.now) s.strict;
  save = option_map (λ v. v.now) s.save;
}

-- a word in front of what stands behind it, which has this second word
abbrev pub plain_in : Text → Option Text → Shape → Option Shape
plain_in w None p = Some (record p { first = Some w; second = p.first })
plain_in w (Some other) p = None

abbrev pub with_plain : Text → Option Shape → Option Shape
with_plain w behind = option_and_then (λ (p : Shape). plain_in w p.second p) behind

-- an option's value in front of what stands behind it, which has this value of the same
abbrev pub strict_in : Text → Option Text → Shape → Option Shape
strict_in v None p = Some (record p { strict = Some v })
strict_in v (Some other) p = None

abbrev pub with_strict : Text → Option Shape → Option Shape
with_strict v behind = option_and_then (λ (p : Shape). strict_in v p.strict p) behind

abbrev pub save_in : Text → Option Text → Shape → Option Shape
save_in v None p = Some (record p { save = Some v })
save_in v (Some other) p = None

abbrev pub with_save : Text → Option Shape → Option Shape
with_save v behind = option_and_then (λ (p : Shape). save_in v p.save p) behind

abbrev pub with_option : OptionName → Text → Option Shape → Option Shape
with_option name.Strict v behind = with_strict v behind
with_option name.Record v behind = with_save v behind
with_option name.Order v behind = None

-- the option that the word is, if its value is the next word
abbrev pub named : Text → Option OptionName
named w = if same_text w (long (name_of name.Strict)) then Some name.Strict
    else (if same_text w (long (name_of name.Record)) then Some name.Record else None)

-- an option that is one word with this value, of the first kind or of the second
abbrev pub joined_in : Option Text → Option Text → Option Shape → Option Shape
joined_in (Some v) other behind = with_option name.Strict v behind
joined_in None (Some v) behind = with_option name.Record v behind
joined_in None None behind = None

abbrev pub joined : Text → Option Shape → Option Shape
joined w behind = joined_in (value_after (start (name_of name.Strict)) w)
    (value_after (start (name_of name.Record)) w) behind

-- a word of the command, or an option with its value
abbrev pub single : Text → Option Shape → Option Shape
single w behind = if is_value w then with_plain w behind else joined w behind

-- a word at the end, being this option or none
abbrev pub last_of : Option OptionName → Text → Option Shape
last_of None w = single w (Some nothing)
last_of (Some o) w = None

-- a word being this option or none, before another
abbrev pub front_of : Option OptionName → Text → Text → Option Shape → Option Shape → Option Shape
front_of None w v behind after = single w behind
front_of (Some o) w v behind after = with_option o v after

-- what the words are
abbrev pub sorted_of : List Text → Option Shape
sorted_of [] = Some nothing
sorted_of (w ∷ []) = last_of (named w) w
sorted_of (w ∷ v ∷ more) = front_of (named w) w v (sorted_of (v ∷ more)) (sorted_of more)
