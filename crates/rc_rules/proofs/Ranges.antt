-- The place of an owner, in places of names that stand one behind the other.
use Rattle.std.proofs.Common.{◌≡◌, ℕ, zero, suc, ◌+◌, ◌<◌, Bool, true, false, cond, ◌&&◌, List, [], ◌∷◌, ◌++◌, length, get_or, drop, nat_lt, Option, Some, None, slice_get, option_map, arith, refl, sym, ap, ◌∙◌, append_assoc}
use Rattle.std.proofs.lemmas.Bool.{le-ltb}
use Rattle.rc_sheet_spec.specs.Sheet.{Class, Sheet, game_class, player_class, team_class}
use Rattle.rc_sheet_spec.specs.WellFormed.{owner_count}
use Rattle.rc_play_spec.specs.Owners.{class_eq, place_among}
use Rattle.rc_rules.specs.Lookup.{Places, places_of, ranges_from, place_in}
use Rattle.rc_rules.proofs.Elements.{drop_here}

no_place : (first owner : ℕ) → None ≡ cond (nat_lt owner 0) (Some (first + owner)) None
no_place first owner = let none : nat_lt owner 0 ≡ false = le-ltb owner 0 (omega arith) in rw none

some_place : (first owner : ℕ) (b : Bool) → option_map (λ n. first + n) (cond b (Some owner) None) ≡ cond b (Some (first + owner)) None
some_place first owner true = refl
some_place first owner false = refl

-- a name has owners of its own class alone
owned : (class wanted : Class) (first count owner : ℕ) →
    option_map (λ n. first + n) (cond (class_eq class wanted && nat_lt owner count) (Some owner) None)
    ≡ place_in wanted owner (Some (places_of first class count))
owned game_class game_class first count owner = some_place first owner _
owned game_class player_class first count owner = no_place first owner
owned game_class team_class first count owner = no_place first owner
owned player_class game_class first count owner = no_place first owner
owned player_class player_class first count owner = some_place first owner _
owned player_class team_class first count owner = no_place first owner
owned team_class game_class first count owner = no_place first owner
owned team_class player_class first count owner = no_place first owner
owned team_class team_class first count owner = some_place first owner _

later : (first count : ℕ) (place : Option ℕ) →
    option_map (λ n. first + n) (option_map (λ n. count + n) place) ≡ option_map (λ n. first + count + n) place
later first count None = refl
later first count (Some n) = let e : first + (count + n) ≡ first + count + n = omega arith in ap Some e

found : (sheet : Sheet) (wanted : Class) (classes : List Class) (first name owner : ℕ) →
    option_map (λ n. first + n) (place_among sheet wanted classes name owner) ≡ place_in wanted owner (slice_get (ranges_from sheet first classes) name)
found sheet wanted [] first name owner = refl
found sheet wanted (class ∷ classes) first zero owner = owned class wanted first (owner_count sheet class) owner
found sheet wanted (class ∷ classes) first (suc name) owner =
    later first (owner_count sheet class) (place_among sheet wanted classes name owner)
    ∙ found sheet wanted classes (first + owner_count sheet class) name owner

from_none : (place : Option ℕ) → place ≡ option_map (λ n. 0 + n) place
from_none None = refl
from_none (Some n) = let e : n ≡ 0 + n = omega arith in ap Some e

pub place_is : (sheet : Sheet) (wanted : Class) (classes : List Class) (name owner : ℕ) →
    place_in wanted owner (slice_get (ranges_from sheet 0 classes) name) ≡ place_among sheet wanted classes name owner
place_is sheet wanted classes name owner =
    sym (from_none (place_among sheet wanted classes name owner) ∙ found sheet wanted classes 0 name owner)

-- one more name
range_more : (sheet : Sheet) (done done' whole : List Places) (classes : List Class) (i first : ℕ) (class : Class) →
    i < length classes → class ≡ get_or classes i class →
    done' ≡ done ++ places_of first class (owner_count sheet class) ∷ [] →
    done ++ ranges_from sheet first (drop i classes) ≡ whole →
    done' ++ ranges_from sheet (first + owner_count sheet class) (drop (i + 1) classes) ≡ whole
range_more sheet done done' whole classes i first class lt is grown told =
    let here : Places = places_of first class (owner_count sheet class) in
    let more : List Places = ranges_from sheet (first + owner_count sheet class) (drop (i + 1) classes) in
    ap (λ xs. xs ++ more) grown ∙ append_assoc done (here ∷ []) more
    ∙ ap (λ cs. done ++ ranges_from sheet first cs) (sym (drop_here classes i class lt is)) ∙ told

pub ranges_more : (sheet : Sheet) (done done' whole : List Places) (classes : List Class) (i first count : ℕ) (class : Class) →
    i < length classes → class ≡ get_or classes i class → count ≡ owner_count sheet class →
    done' ≡ done ++ places_of first class count ∷ [] →
    done ++ ranges_from sheet first (drop i classes) ≡ whole →
    done' ++ ranges_from sheet (first + count) (drop (i + 1) classes) ≡ whole
ranges_more sheet done done' whole classes i first count class lt is counted grown told =
    ap (λ n. done' ++ ranges_from sheet (first + n) (drop (i + 1) classes)) counted
    ∙ range_more sheet done done' whole classes i first class lt is
    (grown ∙ ap (λ n. done ++ places_of first class n ∷ []) counted) told
