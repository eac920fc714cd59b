-- A form without a fault of the second round has no more stages and choices than a sheet may have.
use Rattle.std.proofs.Common.{◌≡◌, ℕ, ◌≤◌, Bool, true, false, ◌||◌, ◌&&◌, nat_le, nat_lt, List, [], ◌∷◌, ◌++◌, length, flat_map, append_assoc, append-nil, refl, sym, subst, ap, arith, ltb-false, le-leb}
use Rattle.std.proofs.lemmas.Bool.{or_parts}
use Rattle.rc_base.specs.Tree.{Tree}
use Rattle.rc_base.specs.Limits.{most_stages, most_sites}
use Rattle.rc_check.specs.SecondParts.{Part, atom, form, parts_of}
use Rattle.rc_check.specs.SecondNames.{stages_in, choices_in}
use Rattle.rc_check.specs.SecondFaults.{is_too_many, passes, stage_count, choice_count, faults_of, faults_behind, second_faults}
use Rattle.rc_check.specs.declared.grammar.Rule.TheVariants as rule
use Rattle.rc_sheet.proofs.Fine.Items.{length_of_both}
use Rattle.rc_sheet.proofs.Shapes.{none_in_both}
use Rattle.rc_sheet.proofs.Faultless.{faultless}

-- a count passes its limit only where a part makes something too many
abbrev pub IsWatched : ℕ → (List Part → ℕ) → List Part → Type 0
IsWatched most count all =
    (earlier : List Part) (part : Part) → is_too_many all earlier part ≡ false → count earlier ≤ most
    → count (earlier ++ part ∷ []) ≤ most

-- so where no part is at fault it doesn't
pub stays_within : (most : ℕ) (count : List Part → ℕ) (all : List Part) → IsWatched most count all → (earlier later : List Part)
    → faults_behind all earlier later ≡ [] → count earlier ≤ most → count (earlier ++ later) ≤ most
stays_within most count all watched earlier [] is le = subst (λ parts. count parts ≤ most) (sym (append-nil earlier)) le
stays_within most count all watched earlier (part ∷ later) is le =
    let none = none_in_both (faults_of all earlier part) _ is in
    let next = watched earlier part (faultless all earlier part none.0).few le in
    subst (λ parts. count parts ≤ most) (append_assoc earlier (part ∷ []) later)
    (stays_within most count all watched (earlier ++ part ∷ []) later none.1 next)

-- where a count doesn't pass its limit it is within it
not_passed : (most : ℕ) (count : List Part → ℕ) (earlier : List Part) (part : Part) → passes most count earlier part ≡ false
    → count earlier ≤ most → count (earlier ++ part ∷ []) ≤ most
not_passed most count earlier part is le = by (nat_le (count earlier) most) (le-leb _ _ le) is
  where
    by : (b : Bool) → b ≡ true → (b && nat_lt most (count (earlier ++ part ∷ []))) ≡ false → count (earlier ++ part ∷ []) ≤ most
    by true same is = ltb-false most (count (earlier ++ part ∷ [])) is
    by false same is = absurd cc

-- of a part that one count watches
pub watched_part : (most : ℕ) (count : List Part → ℕ) (earlier : List Part) (part : Part) (deep : Bool)
    → ((passes most count earlier part || false) || deep) ≡ false → count earlier ≤ most → count (earlier ++ part ∷ []) ≤ most
watched_part most count earlier part deep is le =
    let both = or_parts (passes most count earlier part || false) deep is in
    not_passed most count earlier part (or_parts (passes most count earlier part) false both.0).0 le

-- of a part that adds nothing
adds_nothing : {A : Type 0} (f : Part → List A) (most : ℕ) (earlier : List Part) (part : Part) → f part ≡ []
    → length (flat_map f earlier) ≤ most → length (flat_map f (earlier ++ part ∷ [])) ≤ most
adds_nothing f most earlier part none le =
    let more = length_of_both f earlier (part ∷ []) in
    let zero : length (flat_map f (part ∷ [])) ≡ 0 = ap (λ xs. length (xs ++ [])) none in
    omega (arith, more, zero, le)

-- stages
stages_watched : (all : List Part) → IsWatched most_stages stage_count all
stages_watched all earlier (atom at bytes from) is le = adds_nothing stages_in most_stages earlier (atom at bytes from) refl le
stages_watched all earlier (form at rule.PlayerStage parts from) is le =
    watched_part most_stages stage_count earlier (form at rule.PlayerStage parts from) _ is le
stages_watched all earlier (form at rule.TeamStage parts from) is le =
    watched_part most_stages stage_count earlier (form at rule.TeamStage parts from) _ is le
stages_watched all earlier (form at found parts from) is le =
    adds_nothing stages_in most_stages earlier (form at found parts from) refl le

-- choices
choices_watched : (all : List Part) → IsWatched most_sites choice_count all
choices_watched all earlier (atom at bytes from) is le = adds_nothing choices_in most_sites earlier (atom at bytes from) refl le
choices_watched all earlier (form at rule.Choice parts from) is le =
    watched_part most_sites choice_count earlier (form at rule.Choice parts from) _ is le
choices_watched all earlier (form at found parts from) is le =
    adds_nothing choices_in most_sites earlier (form at found parts from) refl le

-- the stages and the choices of a form without a fault are few
pub few_stages : (tree : Tree) → second_faults tree ≡ [] → stage_count (parts_of tree) ≤ most_stages
few_stages tree is =
    stays_within most_stages stage_count (parts_of tree) (stages_watched (parts_of tree)) [] (parts_of tree) is (omega arith)

-- and the choices
pub few_choices : (tree : Tree) → second_faults tree ≡ [] → choice_count (parts_of tree) ≤ most_sites
few_choices tree is =
    stays_within most_sites choice_count (parts_of tree) (choices_watched (parts_of tree)) [] (parts_of tree) is (omega arith)
