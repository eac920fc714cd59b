-- A form without a fault has fine parts only.
use Rattle.std.proofs.Common.{◌≡◌, ℕ, false, ◌||◌, cond, List, [], ◌∷◌, inl, inr, length, flat_map, nat_le, refl, sym, subst, arith, leb-false, le-leb}
use Rattle.std.specs.List.{All, AllByRecursion}
use Rattle.std.proofs.lemmas.List.Elements.{All-from_recursion}
use Rattle.std.proofs.lemmas.Bool.{not-false, or_parts}
use Rattle.rc_base.specs.Tree.{Tree, Trees}
use Rattle.rc_base.specs.Limits.{most_variables}
use Rattle.rc_sheet_spec.specs.Naming.{Naming}
use Rattle.rc_sheet_spec.specs.FormMentions.{attr_mentions, value_mentions, map_mentions, var_mentions}
use Rattle.rc_check.specs.Faults.{faults}
use Rattle.rc_check.specs.declared.grammar.Symbol.TheVariants as symbol
use Rattle.rc_check.specs.declared.grammar.Rule.{Rule}
use Rattle.rc_check.specs.declared.grammar.Rule.TheVariants as rule
use Rattle.rc_check.specs.Classes.{class_at}
use Rattle.rc_check.specs.declared.role.Role.{Role}
use Rattle.rc_check.specs.declared.role.Role.TheVariants.{UsedAttribute as used_attribute, UsedValue as used_value, UsedMap as used_map, GivenValue as given_value}
use Rattle.rc_check.specs.SecondParts.{Standing, Part, atom, form, parts_of, part_at, word_in}
use Rattle.rc_check.specs.SecondNames.{is_named, attributes_in, value_by, values_in, maps_in, mention_of, locations_in, numbers_of, OwnedMention}
use Rattle.rc_check.specs.SecondFaults.{is_bound, is_unbound, is_unnamed, is_no_player, is_in_stage, is_misused, is_other_side, is_other_mention, is_misplaced, is_wrong_form, is_twice, is_unknown, is_too_deep, second_faults}
use Rattle.rc_resolve.specs.Naming.{naming_of}
use Rattle.rc_sheet.proofs.Fine.Common.{Given, given_of, HasNumber, IsFineAtom, IsLocMention, IsNumMention, IsFineBinder, IsFineRule, IsFineForm, IsFine}
use Rattle.rc_sheet.proofs.Among.{Among, Within, flat_within, one_of_all, each_among}
use Rattle.rc_sheet.proofs.Used.{is_attribute, is_value, is_map, used_in}
use Rattle.rc_sheet.proofs.Whole.{GivesMentions, gives_mentions}
use Rattle.rc_sheet.proofs.Bound.{bound_by, form_binds}
use Rattle.rc_sheet.proofs.Room.{HasRoom, Roomy, all_roomy}
use Rattle.rc_sheet.proofs.Faultless.{IsFaultless, each_faultless}
use Rattle.rc_sheet.proofs.Agreed.{Agree, Fits, all_agree}
use Rattle.rc_sheet.proofs.Found.Names.{among_different, loc_mention_found, num_mention_found}

-- MENTIONS AGREE

fits_locations : (all before : List Part) (part : Part) → IsFaultless all before part → Fits locations_in before part
fits_locations all before (atom at bytes from) fine = inl refl
fits_locations all before (form at rule.Location parts from) fine =
    let wrong = or_parts (is_wrong_form before at rule.Location parts) (is_other_side at at.role) fine.kind_fits in
    let other = or_parts (is_other_mention (flat_map locations_in before) (mention_of parts)) (is_misplaced at.role
    (mention_of parts))
    wrong.0 in
    inr (mention_of parts, refl, other.0)
fits_locations all before (form at r parts from) fine = inl refl

fits_numbers : (all before : List Part) (part : Part) → IsFaultless all before part → Fits numbers_of before part
fits_numbers all before (atom at bytes from) fine = inl refl
fits_numbers all before (form at rule.Counter parts from) fine =
    let wrong = or_parts (is_wrong_form before at rule.Counter parts) (is_other_side at at.role) fine.kind_fits in
    inr (mention_of parts, refl, wrong.0)
fits_numbers all before (form at r parts from) fine = inl refl

-- What is known of a form without a fault.
module _ (tree : Tree) (shaped : faults symbol.Sheet tree ≡ []) (sound : second_faults tree ≡ []) where
  abbrev all : List Part
  all = parts_of tree

  abbrev naming : Naming
  naming = naming_of tree

  abbrev given : Given
  given = given_of tree

  gives : GivesMentions tree
  gives = gives_mentions tree shaped

  locations_agree : Agree (flat_map locations_in all)
  locations_agree = all_agree locations_in all [] all (λ before part fine. fits_locations all before part fine) sound
      (λ mention is. absurd is)

  numbers_agree : Agree (flat_map numbers_of all)
  numbers_agree = all_agree numbers_of all [] all (λ before part fine. fits_numbers all before part fine) sound
      (λ mention is. absurd is)

  -- mentions of the parts are found
  loc_known : (mention : OwnedMention) → Among mention (flat_map locations_in all) → IsLocMention naming mention
  loc_known mention is =
      loc_mention_found tree (flat_map locations_in all) locations_agree gives.no_more_locations mention
      (gives.locations mention is)

  num_known : (mention : OwnedMention) → Among mention (flat_map numbers_of all) → IsNumMention naming mention
  num_known mention is =
      num_mention_found tree (flat_map numbers_of all) numbers_agree (λ x one. subst (Among x) (sym gives.numbers) one) mention
      (subst (Among mention) gives.numbers is)

  -- AN ATOM

  role_numbered : (role : Role) (bytes : List ℕ) → is_unnamed all role bytes ≡ false
      → Within (cond (is_attribute role) (bytes ∷ []) []) (attr_mentions tree)
      → Within (cond (is_value role) (bytes ∷ []) []) (value_mentions tree)
      → Within (cond (is_map role) (bytes ∷ []) []) (map_mentions tree)
      → Within (value_by role bytes) (value_mentions tree) → HasNumber given naming role bytes
  role_numbered used_attribute bytes named attrs values maps given_values =
      (not-false (is_named bytes given.attributes) named, among_different bytes (attr_mentions tree) (attrs bytes (inl refl)))
  role_numbered used_value bytes named attrs values maps given_values =
      (not-false (is_named bytes given.values) named, among_different bytes (value_mentions tree) (values bytes (inl refl)))
  role_numbered used_map bytes named attrs values maps given_values =
      (not-false (is_named bytes given.maps) named, among_different bytes (map_mentions tree) (maps bytes (inl refl)))
  role_numbered given_value bytes named attrs values maps given_values =
      among_different bytes (value_mentions tree) (given_values bytes (inl refl))
  role_numbered role bytes named attrs values maps given_values = tt

  atom_fine : (at : Standing) (bytes : List ℕ) (from : ℕ) (before : List Part) → Among (atom at bytes from) all
      → IsFaultless all before (atom at bytes from) → IsFineAtom given naming at bytes
  atom_fine at bytes from before is fine =
      let part = atom at bytes from in
      let outer = or_parts (is_unbound at bytes || is_unnamed all at.role bytes)
      (is_no_player all before at.place bytes) fine.known in
      let inner = or_parts (is_unbound at bytes) (is_unnamed all at.role bytes) outer.0 in
      let kinds = or_parts (is_misused at bytes) (is_other_side at at.role) fine.kind_fits in
      record {
        bound = inner.0;
        sort_fits = kinds.0;
        sides_fit = kinds.1;
        numbered = role_numbered at.role bytes inner.1
            (λ x one. gives.used_attributes x (flat_within (used_in is_attribute) part all is x one))
            (λ x one. gives.used_values x (flat_within (used_in is_value) part all is x one))
            (λ x one. gives.used_maps x (flat_within (used_in is_map) part all is x one))
            (λ x one. gives.values x (flat_within values_in part all is x one));
      }

  -- A LIST

  -- what is known of a list of this form
  pub record IsKnown (at : Standing) (r : Rule) (parts : Trees) (from : ℕ) (before : List Part) : Type 0 where
    pub once : is_twice before (form at r parts from) ≡ false
    pub known : is_unknown all before (form at r parts from) ≡ false
    pub formed : is_wrong_form before at r parts ≡ false
    pub shallow : is_too_deep (form at r parts from) ≡ false
    pub room : HasRoom at.around
    pub attributes : Within (attributes_in (form at r parts from)) (attr_mentions tree)
    pub maps : Within (maps_in (form at r parts from)) (map_mentions tree)
    pub locations : Within (locations_in (form at r parts from)) (flat_map locations_in all)
    pub numbers : Within (numbers_of (form at r parts from)) (flat_map numbers_of all)
    pub variables : Within (bound_by (form at r parts from)) (var_mentions tree)

  -- of a binder
  binder_fine : (at : Standing) (parts : Trees) → is_bound at parts ≡ false → nat_le most_variables at.around.binders ≡ false
      → HasRoom at.around → Among (word_in 2 parts) (var_mentions tree) → IsFineBinder naming at parts
  binder_fine at parts fresh few room mentioned =
      let less = leb-false most_variables at.around.binders few in
      record {
        fresh = fresh;
        numbered = among_different (word_in 2 parts) (var_mentions tree) mentioned;
        few = few;
        room = le-leb (length at.around.scope) most_variables (omega (arith, less, room));
      }

  rule_fine : (at : Standing) (r : Rule) (parts : Trees) (from : ℕ) (before : List Part) → IsKnown at r parts from before
      → IsFineRule naming at r parts
  rule_fine at rule.Location parts from before k =
      let other = or_parts (is_other_mention (flat_map locations_in before) (mention_of parts))
      (is_misplaced at.role (mention_of parts)) k.formed in
      (other.1, loc_known (mention_of parts) (k.locations (mention_of parts) (inl refl)))
  rule_fine at rule.Counter parts from before k = num_known (mention_of parts) (k.numbers (mention_of parts) (inl refl))
  rule_fine at rule.CurrentPlayer parts from before k = not-false at.around.player_stage k.known
  rule_fine at rule.Known parts from before k = not-false at.around.player_stage k.known
  rule_fine at rule.CurrentTeam parts from before k = not-false at.around.team_stage k.known
  rule_fine at rule.Choice parts from before k = not-false at.around.player_stage k.known
  rule_fine at rule.Next parts from before k = not-false (is_in_stage at.around (class_at (part_at 2 parts))) k.known
  rule_fine at rule.Reverse parts from before k = not-false (at.around.player_stage || at.around.team_stage) k.known
  rule_fine at rule.Repeat parts from before k = k.shallow
  rule_fine at rule.Group parts from before k =
      (k.once, among_different (word_in 0 parts) (attr_mentions tree) (k.attributes (word_in 0 parts) (inl refl)))
  rule_fine at rule.Entry parts from before k =
      among_different (word_in 0 parts) (attr_mentions tree) (k.attributes (word_in 0 parts) (inl refl))
  rule_fine at rule.PutPoints parts from before k =
      among_different (word_in 2 parts) (map_mentions tree) (k.maps (word_in 2 parts) (inl refl))
  rule_fine at rule.Filter parts from before k =
      binder_fine at parts k.once k.shallow k.room (k.variables (word_in 2 parts) (inl refl))
  rule_fine at rule.AnyOf parts from before k =
      binder_fine at parts k.once k.shallow k.room (k.variables (word_in 2 parts) (inl refl))
  rule_fine at rule.Each parts from before k =
      binder_fine at parts k.once k.shallow k.room (k.variables (word_in 2 parts) (inl refl))
  rule_fine at rule.ForAll parts from before k =
      binder_fine at parts k.once k.shallow k.room (k.variables (word_in 2 parts) (inl refl))
  rule_fine at rule.ForAny parts from before k =
      binder_fine at parts k.once k.shallow k.room (k.variables (word_in 2 parts) (inl refl))
  rule_fine at r parts from before k = tt

  form_fine : (at : Standing) (r : Rule) (parts : Trees) (from : ℕ) (before : List Part) → Among (form at r parts from) all
      → HasRoom at.around → IsFaultless all before (form at r parts from) → IsFineForm naming at r parts
  form_fine at r parts from before is room fine =
      let part = form at r parts from in
      let kinds = or_parts (is_wrong_form before at r parts) (is_other_side at at.role) fine.kind_fits in
      let few = or_parts _ (is_too_deep part) fine.few in
      record {
        sides_fit = kinds.1;
        fits = rule_fine at r parts from before (record {
          once = fine.once;
          known = fine.known;
          formed = kinds.0;
          shallow = few.1;
          room = room;
          attributes = λ x one. gives.attributes x (flat_within attributes_in part all is x one);
          maps = λ x one. gives.maps x (flat_within maps_in part all is x one);
          locations = flat_within locations_in part all is;
          numbers = flat_within numbers_of part all is;
          variables = λ x one. form_binds tree shaped x (flat_within bound_by part all is x one);
        });
      }

  -- EACH PART

  part_fine : (part : Part) → Among part all → (before : List Part) × IsFaultless all before part → Roomy part
      → IsFine given naming part
  part_fine (atom at bytes from) is fine room = atom_fine at bytes from fine.0 is fine.1
  part_fine (form at r parts from) is fine room = form_fine at r parts from fine.0 is room fine.1

  each_fine : AllByRecursion (IsFine given naming) all
  each_fine =
      each_among (IsFine given naming) all
      (λ part is.
      part_fine part is
      (one_of_all (λ part. (before : List Part) × IsFaultless all before part) part all (each_faultless all [] all sound) is)
      (one_of_all Roomy part all (all_roomy tree) is))

-- THE LAW: a form without a fault has fine parts only.
pub all_fine : (tree : Tree) → faults symbol.Sheet tree ≡ [] → second_faults tree ≡ []
    → All (IsFine (given_of tree) (naming_of tree)) (parts_of tree)
all_fine tree shaped sound =
    All-from_recursion (IsFine (given_of tree) (naming_of tree)) (parts_of tree) (each_fine tree shaped sound)
