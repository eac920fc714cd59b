-- The options that words say are those that `clap` reads.
use Rattle.std.proofs.Common.{◌≡◌, ℕ, Bool, true, false, List, [], ◌∷◌, Option, Some, None, ◌==◌, ◌&&◌, ◌∙◌, ap, sym, subst, if◌then◌else◌, inl, inr}
use Rattle.std.proofs.lemmas.Option.{none-some}
use Rattle.std.proofs.lemmas.Bool.{cases_Bool, eqb-true, false≢true}
use Rattle.rc_base.specs.Literal.{is_digit}
use Rattle.rc_house.specs.declared.option.OptionName.{OptionName}
use Rattle.rc_house.specs.declared.option.OptionName.TheVariants.{Workers, Cache, Format}
use Rattle.rc_house.specs.declared.options.Options.{Options}
use Rattle.rc_house.specs.declared.reader.Playing.{Playing}
use Rattle.rc_house.specs.declared.reader.Playing.TheVariants.{Play, Bench}
use Rattle.rc_house.specs.Words.{GivesOptions, HasFormat, HasNumber, HasOptions}
use Rattle.rc_house.proofs.SettingLemmas.{Has, Suits}
use Rattle.rc_house.proofs.ClapLemmas.{Reads, options_read}

abbrev Text : Type 0
Text = List ℕ

-- a text that spells a number begins with no `-`
spells_none : (fits starts rest : Bool) (value n : ℕ) → starts ≡ false
    → (if fits && (starts && rest) then Some value else None) ≡ Some n → ⊥
spells_none false starts rest value n e spelled = none-some n spelled
spells_none true false rest value n e spelled = none-some n spelled
spells_none true true rest value n e spelled = false≢true (sym e)

suits_number : (playing : Playing) (name : OptionName) (usual most : ℕ) (text : Option Text) (n : ℕ) → Has playing name → HasNumber usual most text n
    → Suits playing name text
suits_number playing name usual most None n has number = tt
suits_number playing name usual most (Some []) n has (short, spelled, least, greatest) = none-some n spelled
suits_number playing name usual most (Some (b ∷ bs)) n has (short, spelled, least, greatest) = (plain, has)
  where
    plain : (b == 45) ≡ false
    plain = elim (cases_Bool (b == 45)) [
      | inl hyphen ↦ absurd (spells_none _ _ _ _ n (ap is_digit (eqb-true b 45 hyphen)) spelled)
      | inr other ↦ other
    ]

suits_each : (playing : Playing) (texts : (OptionName → Option Text)) (words : List Text) (options : Options) → GivesOptions playing texts words options
    → (name : OptionName) → Suits playing name (texts name)
suits_each Play texts words options (are, workers, cache, format) Workers = suits_number Play Workers _ _ (texts Workers) _ tt workers
suits_each Play texts words options (are, workers, cache, format) Cache = suits_number Play Cache _ _ (texts Cache) _ tt cache
suits_each Play texts words options (are, workers, cache, format) Format = suits_number Play Format _ _ (texts Format) _ tt format
suits_each Bench texts words options (are, workers, cache, format) Workers = suits_number Bench Workers _ _ (texts Workers) _ tt workers
suits_each Bench texts words options (are, workers, cache, format) Cache = suits_number Bench Cache _ _ (texts Cache) _ tt cache
suits_each Bench texts words options (are, workers, cache, format) Format = subst (Suits Bench Format) (sym format.0) tt

pub told_read : (playing : Playing) (words : List Text) (options : Options) → (has : HasOptions playing words options) → Reads playing words has.0
told_read playing words options (texts, given) =
    let settings = given.0.0 in
    let same = given.0.3 in
    let read = options_read playing settings words given.0.1 given.0.2
    (λ name. subst (Suits playing name) (sym (same name)) (suits_each playing texts words options given name)) in
    (read.0, λ name. read.1 name ∙ same name)

-- the same texts give the same options
pub given_alike : (playing : Playing) (texts others : (OptionName → Option Text)) (words : List Text) (options : Options)
    → ((name : OptionName) → texts name ≡ others name) → GivesOptions playing texts words options → GivesOptions playing others words options
given_alike playing texts others words options same ((settings, are, once, told), workers, cache, format) = (
  (settings, are, once, λ name. told name ∙ same name),
  subst (λ x. HasNumber 1 64 x options.workers) (same Workers) workers,
  subst (λ x. HasNumber 1024 65536 x options.cache) (same Cache) cache,
  subst (λ x. HasFormat playing x options.format) (same Format) format,
)
