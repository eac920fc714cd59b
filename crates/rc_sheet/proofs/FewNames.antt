-- A form without a fault has few names of each kind.
use Rattle.std.proofs.Common.{◌≡◌, ℕ, ◌≤◌, Bool, true, false, ◌||◌, cond, List, [], ◌∷◌, ◌++◌, inl, inr, ⊎_elim, length, flat_map, bytes_eq, refl, sym, subst, ap, ◌∙◌, arith}
use Rattle.std.specs.List.{list_any, AllByRecursion, IsDistinct}
use Rattle.std.specs.Cmp.{IsEquivalence}
use Rattle.std.proofs.lemmas.Bool.{or_right, both_ways, not-false, or_parts}
use Rattle.std.proofs.lemmas.List.{append-nil}
use Rattle.std.proofs.lemmas.Grind.{flat_map-append}
use Rattle.std.proofs.lemmas.Map.Made.{length-le_from_is_member}
use Rattle.std.proofs.lemmas.Slice.Eq.{bytes_eq-Decides}
use Rattle.rc_base.specs.Tree.{Tree}
use Rattle.rc_base.specs.Limits.{most_attrs, most_values, most_maps}
use Rattle.rc_base.specs.Words.{different, different_from}
use Rattle.rc_sheet_spec.specs.FormMentions.{attr_mentions, value_mentions, map_mentions, names_of}
use Rattle.rc_check.specs.Faults.{faults}
use Rattle.rc_check.specs.declared.grammar.Symbol.TheVariants as symbol
use Rattle.rc_check.specs.declared.grammar.Rule.TheVariants as rule
use Rattle.rc_check.specs.declared.role.Role.{Role}
use Rattle.rc_check.specs.declared.role.Role.TheVariants.{UsedAttribute as used_attribute, UsedValue as used_value, UsedMap as used_map, GivenValue as given_value}
use Rattle.rc_check.specs.SecondParts.{Part, atom, form, parts_of}
use Rattle.rc_check.specs.SecondNames.{is_named, attributes_in, value_by, values_in, maps_in, different_count}
use Rattle.rc_check.specs.SecondFaults.{attribute_count, value_count, map_count, passes, atom_counts, is_unbound, is_unnamed, is_no_player, second_faults}
use Rattle.rc_sheet.proofs.Among.{Among, Within, among_either, among_named, named_among, one_of_all}
use Rattle.rc_sheet.proofs.Used.{is_attribute, is_value, is_map, used_in}
use Rattle.rc_sheet.proofs.Whole.{gives_mentions}
use Rattle.rc_sheet.proofs.Faultless.{IsFaultless, each_faultless}
use Rattle.rc_sheet.proofs.Found.Names.{among_different, different_within}
use Rattle.rc_sheet.proofs.Fine.Counts.{IsWatched, stays_within, watched_part}

-- EQUAL WORDS

same_either : (x y : List ℕ) (a b : Bool) → bytes_eq x y ≡ a → bytes_eq y x ≡ b → a ≡ b
same_either x y true true first second = refl
same_either x y false false first second = refl
same_either x y true false first second =
    absurd (both_ways (bytes_eq y x) second ((bytes_eq-Decides y x).1 (sym ((bytes_eq-Decides x y).0 first))))
same_either x y false true first second =
    absurd (both_ways (bytes_eq x y) first ((bytes_eq-Decides x y).1 (sym ((bytes_eq-Decides y x).0 second))))

pub words_equal : IsEquivalence bytes_eq
words_equal = record {
  refl = λ x. (bytes_eq-Decides x x).1 refl;
  symm = λ x y. same_either x y (bytes_eq x y) (bytes_eq y x) refl refl;
  congr = λ x y z same. ap (λ w. bytes_eq w z) ((bytes_eq-Decides x y).0 same);
}

-- DIFFERENT WORDS

-- a word that was seen is none of those that are left
apart_from : (x : List ℕ) (seen words : List (List ℕ)) → is_named x seen ≡ true
    → AllByRecursion (λ y. bytes_eq x y ≡ false) (different_from seen words)
apart_from x seen [] named = tt
apart_from x seen (other ∷ words) named =
    by (is_named other seen) refl (bytes_eq x other) refl (apart_from x seen words named)
    (apart_from x (other ∷ seen) words (or_right (bytes_eq x other) (is_named x seen) named))
  where
    by : (old : Bool) → is_named other seen ≡ old → (same : Bool) → bytes_eq x other ≡ same
        → AllByRecursion (λ y. bytes_eq x y ≡ false) (different_from seen words)
        → AllByRecursion (λ y. bytes_eq x y ≡ false) (different_from (other ∷ seen) words)
        → AllByRecursion (λ y. bytes_eq x y ≡ false)
        (cond old (different_from seen words) (other ∷ different_from (other ∷ seen) words))
    by true old same equal kept new = kept
    by false old false equal kept new = (equal, new)
    by false old true equal kept new =
        absurd (both_ways (is_named other seen) old (ap (λ w. is_named w seen) (sym
        ((bytes_eq-Decides x other).0 equal)) ∙ named))

-- different words differ
pub different_differ : (seen words : List (List ℕ)) → IsDistinct bytes_eq (different_from seen words)
unfolding IsDistinct
different_differ seen [] = tt
different_differ seen (other ∷ words) =
    by (is_named other seen) (different_differ seen words) (different_differ (other ∷ seen) words)
  where
    by : (old : Bool) → IsDistinct bytes_eq (different_from seen words)
        → IsDistinct bytes_eq (different_from (other ∷ seen) words)
        → IsDistinct bytes_eq (cond old (different_from seen words) (other ∷ different_from (other ∷ seen) words))
    by true kept new = kept
    by false kept new =
        (apart_from other (other ∷ seen) words (among_named other (other ∷ seen) (inl refl)), new)

-- words within others have no more different ones
pub no_more_different : (words others : List (List ℕ)) → Within words others → different_count words ≤ different_count others
no_more_different words others within =
    length-le_from_is_member words_equal (different words) (different others) (different_differ [] words)
    (λ x is. among_different x others (within x (different_within [] words x (named_among x (different words) is))))

-- COUNTS

-- a part that gives nothing adds nothing
keeps_count : (f : Part → List (List ℕ)) (most : ℕ) (earlier : List Part) (part : Part) → f part ≡ []
    → different_count (flat_map f earlier) ≤ most → different_count (flat_map f (earlier ++ part ∷ [])) ≤ most
keeps_count f most earlier part none le =
    subst (λ l. different_count l ≤ most)
    (sym (flat_map-append f earlier (part ∷ []) ∙ ap (λ l. flat_map f earlier ++ (l ++ [])) none
    ∙ append-nil (flat_map f earlier))) le

attributes_watched : (all : List Part) → IsWatched most_attrs attribute_count all
attributes_watched all earlier (atom at bytes from) is le = keeps_count attributes_in most_attrs earlier
    (atom at bytes from) refl le
attributes_watched all earlier (form at rule.Group parts from) is le =
    watched_part most_attrs attribute_count earlier (form at rule.Group parts from) _ is le
attributes_watched all earlier (form at rule.Entry parts from) is le =
    watched_part most_attrs attribute_count earlier (form at rule.Entry parts from) _ is le
attributes_watched all earlier (form at r parts from) is le =
    keeps_count attributes_in most_attrs earlier (form at r parts from) refl le

maps_watched : (all : List Part) → IsWatched most_maps map_count all
maps_watched all earlier (atom at bytes from) is le = keeps_count maps_in most_maps earlier (atom at bytes from) refl le
maps_watched all earlier (form at rule.PutPoints parts from) is le =
    watched_part most_maps map_count earlier (form at rule.PutPoints parts from) _ is le
maps_watched all earlier (form at r parts from) is le = keeps_count maps_in most_maps earlier (form at r parts from) refl le

values_watched : (all : List Part) → IsWatched most_values value_count all
values_watched all earlier (form at r parts from) is le = keeps_count values_in most_values earlier (form at r parts from) refl le
values_watched all earlier (atom at bytes from) is le = by at.role refl is
  where
    by : (role : Role) → at.role ≡ role
        → (list_any (λ count. passes count.0 count.1 earlier (atom at bytes from)) (atom_counts role) || false) ≡ false
        → value_count (earlier ++ atom at bytes from ∷ []) ≤ most_values
    by given_value here is = watched_part most_values value_count earlier (atom at bytes from) _ is le
    by role here is = keeps_count values_in most_values earlier (atom at bytes from) (ap (λ r. value_by r bytes) here) le

-- WHAT IS USED IS GIVEN

-- what is among what all give one gives
pub flat_among : {A X : Type 0} (f : A → List X) (x : X) (many : List A) → Among x (flat_map f many)
    → (a : A) × Among a many × Among x (f a)
flat_among f x [] is = absurd is
flat_among f x (a ∷ many) is =
    ⊎_elim (λ one. (a, inl refl, one))
    (λ later. let found = flat_among f x many later in (found.0, inr found.1, found.2))
    (among_either x (f a) (flat_map f many) is)

module _ (all : List Part) where
  -- an atom's word in a role
  attribute_given : (role : Role) (bytes x : List ℕ) → is_unnamed all role bytes ≡ false
      → Among x (cond (is_attribute role) (bytes ∷ []) []) → Among x (flat_map attributes_in all)
  attribute_given used_attribute bytes x named (inl is) =
      subst (λ w. Among w (flat_map attributes_in all)) (sym is) (named_among bytes (flat_map attributes_in all)
      (not-false _ named))
  attribute_given used_attribute bytes x named (inr is) = absurd is
  attribute_given role bytes x named is = absurd is

  value_given : (role : Role) (bytes x : List ℕ) → is_unnamed all role bytes ≡ false
      → Among x (cond (is_value role) (bytes ∷ []) []) → Among x (flat_map values_in all)
  value_given used_value bytes x named (inl is) =
      subst (λ w. Among w (flat_map values_in all)) (sym is) (named_among bytes (flat_map values_in all) (not-false _ named))
  value_given used_value bytes x named (inr is) = absurd is
  value_given role bytes x named is = absurd is

  map_given : (role : Role) (bytes x : List ℕ) → is_unnamed all role bytes ≡ false
      → Among x (cond (is_map role) (bytes ∷ []) []) → Among x (flat_map maps_in all)
  map_given used_map bytes x named (inl is) =
      subst (λ w. Among w (flat_map maps_in all)) (sym is) (named_among bytes (flat_map maps_in all) (not-false _ named))
  map_given used_map bytes x named (inr is) = absurd is
  map_given role bytes x named is = absurd is

  -- what the parts of a form without a fault use is given
  used_within : (takes : Role → Bool) (given : Part → List (List ℕ))
      → ((role : Role) (bytes x : List ℕ) → is_unnamed all role bytes ≡ false
      → Among x (cond (takes role) (bytes ∷ []) []) → Among x (flat_map given all))
      → AllByRecursion (λ part. (before : List Part) × IsFaultless all before part) all
      → Within (flat_map (used_in takes) all) (flat_map given all)
  used_within takes given each fine x is =
      let found = flat_among (used_in takes) x all is in
      by found.0 (one_of_all (λ part. (before : List Part) × IsFaultless all before part) found.0 all fine found.1) found.2
    where
      by : (part : Part) → (before : List Part) × IsFaultless all before part → Among x (used_in takes part)
          → Among x (flat_map given all)
      by (form at r parts from) fine one = absurd one
      by (atom at bytes from) fine one =
          let outer = or_parts (is_unbound at bytes || is_unnamed all at.role bytes)
          (is_no_player all fine.0 at.place bytes) fine.1.known in
          let inner = or_parts (is_unbound at bytes) (is_unnamed all at.role bytes) outer.0 in
          each at.role bytes x inner.1 one

-- either of two
either_within : (xs first second ys : List (List ℕ)) → Within xs (first ++ second) → Within first ys → Within second ys
    → Within xs ys
either_within xs first second ys both one other x is =
    ⊎_elim (λ a. one x a) (λ b. other x b) (among_either x first second (both x is))

-- THE LAWS: there are few attributes, values and point maps.
module _ (tree : Tree) (shaped : faults symbol.Sheet tree ≡ []) (sound : second_faults tree ≡ []) where
  faultless_parts : AllByRecursion (λ part. (before : List Part) × IsFaultless (parts_of tree) before part) (parts_of tree)
  faultless_parts = each_faultless (parts_of tree) [] (parts_of tree) sound

  -- what is mentioned is given
  pub attributes_given : Within (attr_mentions tree) (flat_map attributes_in (parts_of tree))
  attributes_given =
      either_within (attr_mentions tree) (flat_map attributes_in (parts_of tree)) (flat_map (used_in is_attribute)
      (parts_of tree))
      (flat_map attributes_in (parts_of tree)) (gives_mentions tree shaped).no_more_attributes (λ x is. is)
      (used_within (parts_of tree) is_attribute attributes_in (attribute_given (parts_of tree)) faultless_parts)

  pub values_given : Within (value_mentions tree) (flat_map values_in (parts_of tree))
  values_given =
      either_within (value_mentions tree) (flat_map values_in (parts_of tree)) (flat_map (used_in is_value) (parts_of tree))
      (flat_map values_in (parts_of tree)) (gives_mentions tree shaped).no_more_values (λ x is. is)
      (used_within (parts_of tree) is_value values_in (value_given (parts_of tree)) faultless_parts)

  pub maps_given : Within (map_mentions tree) (flat_map maps_in (parts_of tree))
  maps_given =
      either_within (map_mentions tree) (flat_map maps_in (parts_of tree)) (flat_map (used_in is_map) (parts_of tree))
      (flat_map maps_in (parts_of tree)) (gives_mentions tree shaped).no_more_maps (λ x is. is)
      (used_within (parts_of tree) is_map maps_in (map_given (parts_of tree)) faultless_parts)

  pub few_attributes : length (names_of tree).attrs ≤ most_attrs
  few_attributes =
      let all = parts_of tree in
      let least = no_more_different (attr_mentions tree) (flat_map attributes_in all) attributes_given in
      let few = stays_within most_attrs attribute_count all (attributes_watched all) [] all sound (omega arith) in
      omega (arith, least, few)

  pub few_values : length (names_of tree).values ≤ most_values
  few_values =
      let all = parts_of tree in
      let least = no_more_different (value_mentions tree) (flat_map values_in all) values_given in
      let few = stays_within most_values value_count all (values_watched all) [] all sound (omega arith) in
      omega (arith, least, few)

  pub few_maps : length (names_of tree).maps ≤ most_maps
  few_maps =
      let all = parts_of tree in
      let least = no_more_different (map_mentions tree) (flat_map maps_in all) maps_given in
      let few = stays_within most_maps map_count all (maps_watched all) [] all sound (omega arith) in
      omega (arith, least, few)
