-- Options and their numbers, as words spell them.
use Rattle.std.specs.Prelude.{ℕ, Bool, true, false, ◌≡◌, ◌≤◌, ◌⊎◌, List, [], ◌∷◌, ◌++◌, length, codes, bytes_eq}
use Rattle.std.specs.Prelude.{if◌then◌else◌, Option, Some, None, option_map}
use Rattle.rc_base.specs.Limits.{most_workers, most_entries}
use Rattle.rc_base.specs.Literal.{natural}
use Rattle.rc_house.specs.declared.option.OptionName.{OptionName}
use Rattle.rc_house.specs.declared.option.OptionName.TheVariants as option
use Rattle.rc_house.specs.declared.settings.Texts.{Texts}
use Rattle.rc_house.specs.declared.options.Format.{Format}
use Rattle.rc_house.specs.declared.options.Format.TheVariants.{Plain, Named}
use Rattle.rc_house.specs.declared.options.Options.{Options}
use Rattle.rc_house.specs.declared.reader.Playing.{Playing}
use Rattle.rc_house.specs.declared.reader.Playing.TheVariants.{Play, Bench}

abbrev pub name_of : OptionName → List ℕ
name_of option.Workers = codes "workers"
name_of option.Cache = codes "cache"
name_of option.Format = codes "format"

-- one to five digits spell a number from `least` to `most`
abbrev pub IsNumber : (least most : ℕ) → List ℕ → ℕ → Type 0
IsNumber least most text n = (length text ≤ 5) × (natural text ≡ Some n) × (least ≤ n) × (n ≤ most)

-- the words name the option and give it this text, in two words or in one
abbrev pub IsOption : OptionName → List ℕ → List (List ℕ) → Type 0
IsOption name text words =
    (words ≡ (codes "--" ++ name_of name) ∷ text ∷ [])
    ⊎ (words ≡ (codes "--" ++ name_of name ++ codes "=" ++ text) ∷ [])

-- the words begin with the option, where it has a text, and these words stand behind it
abbrev pub IsFirst : OptionName → Option (List ℕ) → List (List ℕ) → List (List ℕ) → Type 0
IsFirst name None words back = ⊥
IsFirst name (Some text) words back = (front : List (List ℕ)) × IsOption name text front × (words ≡ front ++ back)

-- an option that words name, with the text that they give it
pub record Setting : Type 0 where
  pub name : OptionName
  pub text : List ℕ

-- the words are these options with their texts, one behind the other
abbrev pub AreSettings : List Setting → List (List ℕ) → Type 0
AreSettings [] words = words ≡ []
AreSettings (setting ∷ settings) words =
    (back : List (List ℕ)) × IsFirst setting.name (Some setting.text) words back × AreSettings settings back

abbrev pub is_same : OptionName → OptionName → Bool
is_same name other = bytes_eq (name_of name) (name_of other)

-- the text that an option is given, if it is named
abbrev pub text_in : List Setting → OptionName → Option (List ℕ)
text_in [] name = None
text_in (setting ∷ settings) name = if is_same setting.name name then Some setting.text else text_in settings name

-- no option is named twice
abbrev pub AreOnce : List Setting → Type 0
AreOnce [] = Unit {0}
AreOnce (setting ∷ settings) = (text_in settings setting.name ≡ None) × AreOnce settings

-- the words give the options these texts, in any order and each at most once, and say nothing else
abbrev pub AreOptions : (OptionName → Option (List ℕ)) → List (List ℕ) → Type 0
AreOptions texts words = (settings : List Setting) × AreSettings settings words × AreOnce settings
    × ((name : OptionName) → text_in settings name ≡ texts name)

-- the text that was read of an option
abbrev pub text_of : Texts → OptionName → Option (List ℕ)
text_of texts option.Workers = option_map (λ s. s.now) texts.workers
text_of texts option.Cache = option_map (λ s. s.now) texts.cache
text_of texts option.Format = option_map (λ s. s.now) texts.format

-- the number of an option, from 1 on: what its text spells, or the usual one where it isn't named
abbrev pub HasNumber : ℕ → ℕ → Option (List ℕ) → ℕ → Type 0
HasNumber usual most None n = n ≡ usual
HasNumber usual most (Some text) n = IsNumber 1 most text n

-- the number that names a format
abbrev pub number_of : Format → ℕ
number_of Plain = 1
number_of Named = 2

-- a transcript of this format tells what items bind
abbrev pub is_named : Format → Bool
is_named Plain = false
is_named Named = true

-- the format that the text of its option says. `bench` has no such option
abbrev pub HasFormat : Playing → Option (List ℕ) → Format → Type 0
HasFormat Play text format = HasNumber 1 2 text (number_of format)
HasFormat Bench text format = (text ≡ None) × (format ≡ Plain)

-- what holds unless words say otherwise
abbrev pub usual_options : Options
usual_options = record { workers = 1; cache = 1024; format = Plain }

-- the words give the options these texts, and the texts spell the numbers
abbrev pub GivesOptions : Playing → (OptionName → Option (List ℕ)) → List (List ℕ) → Options → Type 0
GivesOptions playing texts words options = AreOptions texts words
    × HasNumber usual_options.workers most_workers (texts option.Workers) options.workers
    × HasNumber usual_options.cache most_entries (texts option.Cache) options.cache
    × HasFormat playing (texts option.Format) options.format

-- the words are options of this command, each named once at most
abbrev pub HasOptions : Playing → List (List ℕ) → Options → Type 0
HasOptions playing words options = (texts : (OptionName → Option (List ℕ))) × GivesOptions playing texts words options
