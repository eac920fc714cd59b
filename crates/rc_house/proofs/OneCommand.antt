-- Words are one command at most: the command that words are is the one that is read off them from left to right.
use Rattle.std.proofs.Common.{◌≡◌, ℕ, zero, suc, ◌<◌, ◌≤◌, List, [], ◌∷◌, ◌++◌, drop, length, codes, refl, ap, ap₂, sym, subst, ◌∙◌, arith, Option, Some, None, inl, inr, if◌then◌else◌, bytes_eq, slice_index, ◌==◌}
use Rattle.std.specs.Prelude.{unwrap_or}
use Rattle.rc_base.specs.Literal.{natural}
use Rattle.rc_house.specs.Words.{Setting, IsFirst, AreSettings, HasFormat, HasNumber, HasOptions, number_of, text_in}
use Rattle.rc_house.specs.Command.{IsCommand, IsRival}
use Rattle.rc_house.specs.declared.option.OptionName.{OptionName}
use Rattle.rc_house.specs.declared.option.OptionName.TheVariants.{Workers, Cache, Format}
use Rattle.rc_house.specs.declared.options.Format.{Format as TextFormat}
use Rattle.rc_house.specs.declared.options.Format.TheVariants.{Plain, Named}
use Rattle.rc_house.specs.declared.options.Options.{Options}
use Rattle.rc_house.specs.declared.reader.Playing.{Playing}
use Rattle.rc_house.specs.declared.reader.Playing.TheVariants as playing
use Rattle.rc_house.specs.declared.rival.Rival.{Rival}
use Rattle.rc_house.specs.declared.command.Command.{Command}
use Rattle.rc_house.specs.declared.command.Command.TheVariants.{Play, Check, Sheet, Bench, Migrate, Watch, Measure, Rival as SearchesFor}
use Rattle.rc_house.proofs.WordLemmas.{first_of, behind_first}

abbrev Text : Type 0
Text = List ℕ

-- an option that words begin with, and the words behind it
record First : Type 0 where
  setting : Setting
  rest : List Text

-- Words that begin with no option may give anything here, so that one letter of a word that holds its text, the `w` of
-- `--workers=`, tells which option it is.
abbrev first_in : List Text → Option First
first_in [] = None
first_in (word ∷ words) =
    if bytes_eq word (codes "--workers") then Some (record { setting = record { name = Workers; text = first_of words }; rest = behind_first words })
    else if bytes_eq word (codes "--cache") then Some (record { setting = record { name = Cache; text = first_of words }; rest = behind_first words })
    else if bytes_eq word (codes "--format") then Some (record { setting = record { name = Format; text = first_of words }; rest = behind_first words })
    else if slice_index word 2 == 119 then Some (record { setting = record { name = Workers; text = drop 10 word }; rest = words })
    else if slice_index word 2 == 99 then Some (record { setting = record { name = Cache; text = drop 8 word }; rest = words })
    else Some (record { setting = record { name = Format; text = drop 9 word }; rest = words })

first_is : (name : OptionName) (text : Text) (words back : List Text) → IsFirst name (Some text) words back
    → first_in words ≡ Some (record { setting = record { name = name; text = text }; rest = back })
first_is Workers text words back (front, inl is, split) = ap first_in split ∙ ap (λ x. first_in (x ++ back)) is
first_is Workers text words back (front, inr is, split) = ap first_in split ∙ ap (λ x. first_in (x ++ back)) is
first_is Cache text words back (front, inl is, split) = ap first_in split ∙ ap (λ x. first_in (x ++ back)) is
first_is Cache text words back (front, inr is, split) = ap first_in split ∙ ap (λ x. first_in (x ++ back)) is
first_is Format text words back (front, inl is, split) = ap first_in split ∙ ap (λ x. first_in (x ++ back)) is
first_is Format text words back (front, inr is, split) = ap first_in split ∙ ap (λ x. first_in (x ++ back)) is

-- words begin with one option at most
abbrev name_at : Option First → OptionName
name_at None = Workers
name_at (Some first) = first.setting.name

abbrev rest_at : Option First → List Text
rest_at None = []
rest_at (Some first) = first.rest

pub one_first : (name other : OptionName) (text other_text : Option Text) (words back other_back : List Text) → IsFirst name text words back
    → IsFirst other other_text words other_back → (name ≡ other) × (back ≡ other_back)
one_first name other None other_text words back other_back first other_first = absurd first
one_first name other (Some text) None words back other_back first other_first = absurd other_first
one_first name other (Some text) (Some other_text) words back other_back first other_first =
    let same = sym (first_is name text words back first) ∙ first_is other other_text words other_back other_first in
    (ap name_at same, ap rest_at same)

-- so many options at the front of words
abbrev behind_first_in : Option First → (List Text → List Setting) → List Setting
behind_first_in None next = []
behind_first_in (Some first) next = first.setting ∷ next first.rest

abbrev settings_from : ℕ → List Text → List Setting
settings_from zero words = []
settings_from (suc n) words = behind_first_in (first_in words) (settings_from n)

none_in_none : (n : ℕ) → settings_from n [] ≡ []
none_in_none zero = refl
none_in_none (suc n) = refl

pub longer : (name : OptionName) (text : Text) (words back : List Text) → IsFirst name (Some text) words back → length back < length words
longer name text words back (front, inl is, split) = subst (λ x. length back < length x) (sym (split ∙ ap (λ x. x ++ back) is)) (omega arith)
longer name text words back (front, inr is, split) = subst (λ x. length back < length x) (sym (split ∙ ap (λ x. x ++ back) is)) (omega arith)

settings_are : (settings : List Setting) (words : List Text) (n : ℕ) → AreSettings settings words → length words ≤ n → settings_from n words ≡ settings
settings_are [] words n are few = ap (settings_from n) are ∙ none_in_none n
settings_are (setting ∷ settings) words zero (back, first, are) few = absurd (omega (arith, longer setting.name setting.text words back first))
settings_are (setting ∷ settings) words (suc n) (back, first, are) few =
    ap (λ x. behind_first_in x (settings_from n)) (first_is setting.name setting.text words back first)
    ∙ ap (λ x. setting ∷ x) (settings_are settings back n are (omega (arith, longer setting.name setting.text words back first)))

-- the numbers that these texts spell
abbrev number_in : ℕ → Option Text → ℕ
number_in usual None = usual
number_in usual (Some text) = unwrap_or (natural text) usual

number_is : (usual most : ℕ) (text : Option Text) (n : ℕ) → HasNumber usual most text n → n ≡ number_in usual text
number_is usual most None n is = is
number_is usual most (Some text) n (short, spelled, least, greatest) = sym (ap (λ x. unwrap_or x usual) spelled)

abbrev format_by : ℕ → TextFormat
format_by n = if n == 2 then Named else Plain

format_back : (format : TextFormat) → format ≡ format_by (number_of format)
format_back Plain = refl
format_back Named = refl

abbrev format_in : Playing → Option Text → TextFormat
format_in playing.Play text = format_by (number_in 1 text)
format_in playing.Bench text = Plain

format_is : (kind : Playing) (text : Option Text) (format : TextFormat) → HasFormat kind text format → format ≡ format_in kind text
format_is playing.Play text format has = format_back format ∙ ap format_by (number_is 1 2 text (number_of format) has)
format_is playing.Bench text format has = has.1

abbrev options_from : Playing → List Setting → Options
options_from kind settings = record {
  workers = number_in 1 (text_in settings Workers);
  cache = number_in 1024 (text_in settings Cache);
  format = format_in kind (text_in settings Format);
}

abbrev options_in : Playing → List Text → Options
options_in kind words = options_from kind (settings_from (length words) words)

options_are : (kind : Playing) (words : List Text) (options : Options) → HasOptions kind words options → options ≡ options_in kind words
options_are kind words options (texts, ((settings, are, once, told), workers, cache, format)) =
    same (number_is 1 64 (texts Workers) options.workers workers ∙ ap (number_in 1) (sym (told Workers)))
    (number_is 1024 65536 (texts Cache) options.cache cache ∙ ap (number_in 1024) (sym (told Cache)))
    (format_is kind (texts Format) options.format format ∙ ap (format_in kind) (sym (told Format)))
    ∙ ap (options_from kind) (sym (settings_are settings words (length words) are (omega arith)))
  where
    same : {workers workers' cache cache' : ℕ} {format format' : TextFormat} → workers ≡ workers' → cache ≡ cache' → format ≡ format'
        → ◌≡◌ {A = Options} (record { workers = workers; cache = cache; format = format }) (record { workers = workers'; cache = cache'; format = format' })
    same a b c = λ i. record { workers = a i; cache = b i; format = c i }

-- the search that words name, where they name one
abbrev number_at : ℕ → List Text → ℕ
number_at n words = unwrap_or (natural (first_of (drop n words))) 0

abbrev rival_in : List Text → Rival
rival_in words =
    record { strategy = number_at 0 words; depth = number_at 1 words; rounds = number_at 2 words; key = number_at 3 words }

rival_is : (words : List Text) (rival : Rival) → IsRival words rival → rival ≡ rival_in words
rival_is words rival (strategy, depth, rounds, key, split, (first, second, third, spelled)) =
    same (sym (ap (λ x. unwrap_or x 0) first.1)) (sym (ap (λ x. unwrap_or x 0) second.1)) (sym (ap (λ x. unwrap_or x 0) third.1))
    (sym (ap (λ x. unwrap_or x 0) spelled))
    ∙ sym (ap rival_in split)
  where
    same : {strategy strategy' depth depth' rounds rounds' key key' : ℕ} → strategy ≡ strategy' → depth ≡ depth' → rounds ≡ rounds'
        → key ≡ key'
        → ◌≡◌ {A = Rival} (record { strategy = strategy; depth = depth; rounds = rounds; key = key })
        (record { strategy = strategy'; depth = depth'; rounds = rounds'; key = key' })
    same a b c d = λ i. record { strategy = a i; depth = b i; rounds = c i; key = d i }

-- the command that words are, where they are one. Other words may give anything here too
abbrev command_in : List Text → Command
command_in [] = Check
command_in (name ∷ words) =
    if bytes_eq name (codes "play") then Play (options_in playing.Play words)
    else if bytes_eq name (codes "bench") then Bench (unwrap_or (natural (first_of words)) 1) (options_in playing.Bench (behind_first words))
    else if bytes_eq name (codes "sheet") then Sheet
    else if bytes_eq name (codes "migrate") then Migrate
    else if bytes_eq name (codes "watch")
    then Watch (unwrap_or (natural (first_of words)) 0) (unwrap_or (natural (first_of (behind_first words))) 0)
    else if bytes_eq name (codes "measure") then Measure
    else if bytes_eq name (codes "rival") then SearchesFor (rival_in words)
    else Check

command_is : (words : List Text) (command : Command) → IsCommand words command → command ≡ command_in words
command_is words (Play options) (rest, is, has) = ap Play (options_are playing.Play rest options has) ∙ sym (ap command_in is)
command_is words Check is = sym (ap command_in is)
command_is words Sheet is = sym (ap command_in is)
command_is words Migrate is = sym (ap command_in is)
command_is words (Watch seat number) (later, is, (text, other, split, (short, spelled, least, most), (short', spelled', least', most'))) =
    ap₂ Watch (sym (ap (λ x. unwrap_or x 0) spelled)) (sym (ap (λ x. unwrap_or x 0) spelled'))
    ∙ sym (ap command_in (is ∙ ap (λ x. codes "watch" ∷ x) split))
command_is words Measure is = sym (ap command_in is)
command_is words (SearchesFor rival) (later, is, has) = ap SearchesFor (rival_is later rival has) ∙ sym (ap command_in is)
command_is words (Bench number options) (later, is, (text, rest, split, (short, spelled, least, greatest), has)) =
    ap₂ Bench (sym (ap (λ x. unwrap_or x 1) spelled)) (options_are playing.Bench rest options has)
    ∙ sym (ap command_in (is ∙ ap (λ x. codes "bench" ∷ x) split))

pub one_command : (words : List Text) (command other : Command) → IsCommand words command → IsCommand words other → other ≡ command
one_command words command other is other_is = command_is words other other_is ∙ sym (command_is words command is)
