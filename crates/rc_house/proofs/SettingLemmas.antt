-- Lists of options with their texts.
use Rattle.std.proofs.Common.{◌≡◌, ℕ, Bool, true, false, List, [], ◌∷◌, ◌++◌, Option, Some, None, refl, ap, sym, subst, ◌∙◌, ◌==◌, if◌then◌else◌}
use Rattle.std.proofs.lemmas.Option.{none-some}
use Rattle.std.proofs.lemmas.Bool.{false≢true}
use Rattle.rc_house.specs.declared.option.OptionName.{OptionName}
use Rattle.rc_house.specs.declared.option.OptionName.TheVariants.{Workers, Cache, Format}
use Rattle.rc_house.specs.declared.reader.Playing.{Playing}
use Rattle.rc_house.specs.declared.reader.Playing.TheVariants.{Play, Bench}
use Rattle.rc_house.specs.Words.{Setting, AreOnce, is_same, text_in}

abbrev Text : Type 0
Text = List ℕ

pub same_self : (name : OptionName) → is_same name name ≡ true
same_self Workers = refl
same_self Cache = refl
same_self Format = refl

pub same_is : (name other : OptionName) → is_same name other ≡ true → name ≡ other
same_is Workers Workers e = refl
same_is Workers Cache e = absurd (false≢true e)
same_is Workers Format e = absurd (false≢true e)
same_is Cache Workers e = absurd (false≢true e)
same_is Cache Cache e = refl
same_is Cache Format e = absurd (false≢true e)
same_is Format Workers e = absurd (false≢true e)
same_is Format Cache e = absurd (false≢true e)
same_is Format Format e = refl

same_back : (name other : OptionName) → is_same name other ≡ is_same other name
same_back Workers Workers = refl
same_back Workers Cache = refl
same_back Workers Format = refl
same_back Cache Workers = refl
same_back Cache Cache = refl
same_back Cache Format = refl
same_back Format Workers = refl
same_back Format Cache = refl
same_back Format Format = refl

-- where an option isn't named, it isn't the first one, and isn't named later
pub not_there : (setting : Setting) (settings : List Setting) (name : OptionName) → text_in (setting ∷ settings) name ≡ None
    → (is_same setting.name name ≡ false) × (text_in settings name ≡ None)
not_there setting settings name none = go (is_same setting.name name) none
  where
    go : (b : Bool) → (if b then Some setting.text else text_in settings name) ≡ None → (b ≡ false) × (text_in settings name ≡ None)
    go true none = absurd (none-some _ (sym none))
    go false none = (refl, none)

-- an option that isn't named isn't named either where another one comes behind
not_behind : (settings : List Setting) (setting : Setting) (name : OptionName) → text_in settings name ≡ None
    → is_same setting.name name ≡ false → text_in (settings ++ setting ∷ []) name ≡ None
not_behind [] setting name none other = ap (λ b. if b then Some setting.text else None) other
not_behind (first ∷ settings) setting name none other =
    let split = not_there first settings name none in
    ap (λ b. if b then Some first.text else text_in (settings ++ setting ∷ []) name) split.0 ∙ not_behind settings setting name split.1 other

-- each option is new at its place
abbrev pub AreNew : List Setting → List Setting → Type 0
AreNew done [] = Unit {0}
AreNew done (setting ∷ settings) = (text_in done setting.name ≡ None) × AreNew (done ++ setting ∷ []) settings

abbrev AreApart : List Setting → List Setting → Type 0
AreApart done [] = Unit {0}
AreApart done (setting ∷ settings) = (text_in done setting.name ≡ None) × AreApart done settings

grown : (done : List Setting) (setting : Setting) (settings : List Setting) → text_in settings setting.name ≡ None → AreApart done settings
    → AreApart (done ++ setting ∷ []) settings
grown done setting [] none apart = tt
grown done setting (next ∷ settings) none (here, apart) =
    let split = not_there next settings setting.name none in
    (not_behind done setting next.name here (same_back setting.name next.name ∙ split.0), grown done setting settings split.1 apart)

new_behind : (done settings : List Setting) → AreApart done settings → AreOnce settings → AreNew done settings
new_behind done [] apart once = tt
new_behind done (setting ∷ settings) (here, apart) (once, later) =
    (here, new_behind (done ++ setting ∷ []) settings (grown done setting settings once apart) later)

apart_of_none : (settings : List Setting) → AreApart [] settings
apart_of_none [] = tt
apart_of_none (setting ∷ settings) = (refl, apart_of_none settings)

pub are_new : (settings : List Setting) → AreOnce settings → AreNew [] settings
are_new settings once = new_behind [] settings (apart_of_none settings) once

-- the command has the option
abbrev pub Has : Playing → OptionName → Type 0
Has Play name = Unit {0}
Has Bench Workers = Unit {0}
Has Bench Cache = Unit {0}
Has Bench Format = ⊥

-- where the option is named, the command has it, and its text begins with no `-`
abbrev pub Suits : Playing → OptionName → Option Text → Type 0
Suits playing name None = Unit {0}
Suits playing name (Some []) = ⊥
Suits playing name (Some (b ∷ bs)) = ((b == 45) ≡ false) × Has playing name

abbrev pub AllSuit : Playing → List Setting → Type 0
AllSuit playing [] = Unit {0}
AllSuit playing (setting ∷ settings) = Suits playing setting.name (Some setting.text) × AllSuit playing settings

pub all_suit : (playing : Playing) (settings : List Setting) → AreOnce settings → ((name : OptionName) → Suits playing name (text_in settings name))
    → AllSuit playing settings
all_suit playing [] once suits = tt
all_suit playing (setting ∷ settings) (once, later) suits = (
  subst (Suits playing setting.name) (ap (λ b. if b then Some setting.text else text_in settings setting.name) (same_self setting.name)) (suits setting.name),
  all_suit playing settings later (λ name. behind name (is_same setting.name name) refl (suits name)),
)
  where
    behind : (name : OptionName) (b : Bool) → is_same setting.name name ≡ b → Suits playing name (if b then Some setting.text else text_in settings name)
        → Suits playing name (text_in settings name)
    behind name true e suits = subst (Suits playing name) (sym (ap (text_in settings) (sym (same_is setting.name name e)) ∙ once)) tt
    behind name false e suits = suits
