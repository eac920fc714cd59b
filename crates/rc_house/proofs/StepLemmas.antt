-- One option taken off the front of words that are options.
use Rattle.std.proofs.Common.{◌≡◌, ℕ, Bool, true, false, ◌<◌, List, [], ◌∷◌, map, length, Option, Some, None, refl, ap, sym, subst, ◌∙◌, arith, if◌then◌else◌, ◌==◌, option_map, String, string_bytes, Global}
use Rattle.std.proofs.lemmas.List.{length-map}
use Rattle.std.proofs.lemmas.Option.{none-some}
use Rattle.std.proofs.lemmas.Bool.{false≢true}
use Rattle.rc_house.specs.declared.option.OptionName.{OptionName}
use Rattle.rc_house.specs.declared.option.OptionName.TheVariants.{Workers, Cache, Format}
use Rattle.rc_house.specs.declared.settings.Texts.{Texts}
use Rattle.rc_house.specs.Words.{AreSettings, AreOptions, IsFirst, is_same, text_in, text_of}
use Rattle.rc_house.proofs.OneCommand.{one_first, longer}
use Rattle.rc_house.proofs.SettingLemmas.{same_self, same_is}

abbrev Text : Type 0
Text = List ℕ

abbrev Told : Type 0
Told = OptionName → Option Text

-- the texts of the other options
abbrev Without : OptionName → Told → Told → Type 0
Without name texts left = (other : OptionName) → left other ≡ (if is_same name other then None else texts other)

longer_by : (name : OptionName) (text : Option Text) (words back : List Text) → IsFirst name text words back → length back < length words
longer_by name None words back first = absurd first
longer_by name (Some text) words back first = longer name text words back first

pub shorter : (name : OptionName) (text : Option Text) (words rest : List (String Global)) → IsFirst name text (map string_bytes words) (map string_bytes rest)
    → length rest < length words
shorter name text words rest first =
    let less = longer_by name text (map string_bytes words) (map string_bytes rest) first in
    omega (arith, less, length-map words string_bytes, length-map rest string_bytes)

pub taken : (texts left : Told) (name : OptionName) (words back : List Text) → IsFirst name (texts name) words back → Without name texts left
    → AreOptions texts words → AreOptions left back
taken texts left name words back first without ([], are, once, told) =
    let less = longer_by name (texts name) words back first in
    let none : length words ≡ 0 = ap length are in absurd (omega (arith, less, none))
taken texts left name words back first without (setting ∷ settings, (later, first_is, are), (once, onces), told) =
    let same = one_first setting.name name (Some setting.text) (texts name) words later back first_is first in (
      settings,
      subst (AreSettings settings) same.1 are,
      onces,
      λ other.
          by_cases other (is_same setting.name other) refl ∙ ap (λ x. if is_same x other then None else texts other) same.0 ∙ sym (without other),
    )
  where
    by_cases : (other : OptionName) (b : Bool) → is_same setting.name other ≡ b
        → text_in settings other ≡ (if b then None else texts other)
    by_cases other true e = ap (text_in settings) (sym (same_is setting.name other e)) ∙ once
    by_cases other false e = ap (λ b. if b then Some setting.text else text_in settings other) (sym e) ∙ told other

pub put_back : (texts left : Told) (name : OptionName) (words back : List Text) → IsFirst name (texts name) words back → Without name texts left
    → AreOptions left back → AreOptions texts words
put_back texts left name words back first without (settings, are, once, told) = by_text (texts name) refl first
  where
    by_text : (text : Option Text) → texts name ≡ text → IsFirst name text words back → AreOptions texts words
    by_text None e first = absurd first
    by_text (Some text) e first = (
      record { name = name; text = text } ∷ settings,
      (back, first, are),
      (told name ∙ without name ∙ ap (λ b. if b then None else texts name) (same_self name), once),
      λ other. by_cases text e other (is_same name other) refl,
    )
      where
        by_cases : (text : Text) → texts name ≡ Some text → (other : OptionName) (b : Bool) → is_same name other ≡ b
            → (if b then Some text else text_in settings other) ≡ texts other
        by_cases text e other true same = sym e ∙ ap texts (same_is name other same)
        by_cases text e other false same = told other ∙ without other ∙ ap (λ b. if b then None else texts other) same

-- words that are options begin with one, unless there are none
pub some_first : (texts : Told) (words : List (String Global)) → false ≡ (length words == 0) → AreOptions texts (map string_bytes words)
    → (name : OptionName) × (back : List Text) × IsFirst name (texts name) (map string_bytes words) back
some_first texts [] some are = absurd (false≢true some)
some_first texts (word ∷ words) some ([], are, once, told) = let none : length (string_bytes word ∷ map string_bytes words) ≡ 0 = ap length are in absurd (omega (arith, none))
some_first texts (word ∷ words) some (setting ∷ settings, (back, first, are), once, told) =
    let text = sym (ap (λ b. if b then Some setting.text else text_in settings setting.name) (same_self setting.name)) ∙ told setting.name in
    (setting.name, back, subst (λ x. IsFirst setting.name x (string_bytes word ∷ map string_bytes words) back) text first)

-- no words give no texts
abbrev pub IsEmpty : Texts → Type 0
IsEmpty texts = (texts.workers ≡ None) × (texts.cache ≡ None) × (texts.format ≡ None)

pub none_given : (texts : Texts) (words : List (String Global)) → length words ≡ 0 → IsEmpty texts → AreOptions (text_of texts) (map string_bytes words)
none_given texts [] none (workers, cache, format) = ([], refl, tt, by_name)
  where
    by_name : (name : OptionName) → None ≡ text_of texts name
    by_name Workers = ap (option_map (λ s. s.now)) (sym workers)
    by_name Cache = ap (option_map (λ s. s.now)) (sym cache)
    by_name Format = ap (option_map (λ s. s.now)) (sym format)
none_given texts (word ∷ words) none empty = absurd (omega (arith, none))

was_none : {T U : Type 0} (f : T → U) (x : Option T) → None ≡ option_map f x → x ≡ None
was_none f None is = refl
was_none f (Some x) is = absurd (none-some _ is)

pub given_none : (texts : Texts) (words : List (String Global)) → length words ≡ 0 → AreOptions (text_of texts) (map string_bytes words) → IsEmpty texts
given_none texts words none ([], are, once, told) =
    (was_none (λ s. s.now) texts.workers (told Workers), was_none (λ s. s.now) texts.cache (told Cache), was_none (λ s. s.now) texts.format (told Format))
given_none texts [] none (setting ∷ settings, (back, first, are), once, told) =
    let less = longer setting.name setting.text [] back first in absurd (omega (arith, less))
given_none texts (word ∷ words) none (setting ∷ settings, are, once, told) = absurd (omega (arith, none))
