-- Parts of a form that keep what a well formed sheet says of what they stand for, whatever stands before them.
use Rattle.std.proofs.Common.{◌≡◌, ℕ, suc, ◌+◌, Bool, true, false, ◌&&◌, ◌||◌, not, List, [], ◌∷◌, ◌++◌, flat_map, Option, Some, option_map, slice_get, refl, sym, subst}
use Rattle.std.specs.Prelude.{codes}
use Rattle.std.specs.List.{AllByRecursion}
use Rattle.std.proofs.lemmas.Bool.{or_from}
use Rattle.rc_base.specs.Tree.{Tree, word, list, Trees, nil, cons}
use Rattle.rc_deck.proofs.EachLemmas.{append_each}
use Rattle.rc_sheet_spec.specs.Sheet.{Sheet}
use Rattle.rc_sheet_spec.specs.Naming.{loc_class, num_class, sheet_naming}
use Rattle.rc_sheet_spec.specs.Naming.{kind_word as kind_bytes}
use Rattle.rc_sheet_spec.specs.WellFormed.{Around, IsAttr, IsValue, IsMap}
use Rattle.rc_check.specs.Faults.{is_variable, rule_of}
use Rattle.rc_check.specs.declared.keyword.Keyword.{Keyword}
use Rattle.rc_check.specs.declared.grammar.Symbol.{Symbol}
use Rattle.rc_check.specs.declared.grammar.Symbol.TheVariants as symbol
use Rattle.rc_check.specs.declared.grammar.Rule.{Rule}
use Rattle.rc_check.specs.declared.grammar.Rule.TheVariants as rule
use Rattle.rc_check.specs.declared.role.Role.{Role}
use Rattle.rc_check.specs.declared.role.Role.TheVariants.{No as no_role}
use Rattle.rc_check.specs.SecondParts.{Standing, Part, atom, form, is_binder, with_form, parts_at, parts_in, standing_in}
use Rattle.rc_check.specs.SecondNames.{some_of, is_named, attributes_in, values_in, maps_in, mention_of, OwnedMention}
use Rattle.rc_check.specs.SecondFaults.{is_player_again, sorts_at, is_unbound, is_unnamed, is_no_player, is_misused, is_other_side, is_misplaced, is_twice, is_unknown, is_wrong_kind, is_too_deep}
use Rattle.rc_sheet.proofs.GoodParts.{Each}

-- a place, with what is around it
abbrev pub standing : Symbol → Around → Role → Trees → List (List ℕ) → Standing
standing place around role beside above =
    record { place = place; role = role; beside = beside; around = around; above = above }

-- nothing can be wrong with a form of this rule by itself, and it mentions no name with an owner
abbrev pub is_easy : Rule → Bool
is_easy rule.CreateTeams = false
is_easy rule.Group = false
is_easy rule.CurrentPlayer = false
is_easy rule.Known = false
is_easy rule.CurrentTeam = false
is_easy rule.Choice = false
is_easy rule.Next = false
is_easy rule.Reverse = false
is_easy rule.Repeat = false
is_easy rule.Location = false
is_easy rule.Counter = false
is_easy r = not (is_binder r)

-- The parts of a form from this index on stand at these places in these roles, with as much around them as around the form.
abbrev pub StandAt : Standing → Rule → Trees → ℕ → List (Symbol × Role) → Type 0
StandAt at r parts k [] = Unit {0}
StandAt at r parts k (s ∷ seats) =
    (standing_in at r parts k ≡ Some (standing s.0 at.around s.1 parts (at.above ++ []))) × StandAt at r parts (k + 1) seats

-- And nothing can be wrong with the form by itself.
abbrev pub IsRow : Rule → List (Symbol × Role) → Type 0
IsRow r seats = (is_easy r ≡ true) × ((at : Standing) (parts : Trees) → StandAt at r parts 0 seats)

-- a head, and a part without a role
abbrev pub head_seat : Keyword → Symbol × Role
head_seat k = (symbol.Word k, no_role)

abbrev pub plain_seat : Symbol → Symbol × Role
plain_seat q = (q, no_role)

-- A sheet, and all parts of a form.
module _ (sheet : Sheet) (all : List Part) where
  -- a mention of a location, and of a stored number, says what the sheet does of the name
  pub record IsLocSaid (mention : OwnedMention) : Type 0 where
    pub number : ℕ
    pub named : slice_get sheet.names.locs number ≡ Some mention.name
    pub same_kind : option_map (λ loc. kind_bytes loc.kind) (slice_get sheet.locs number) ≡ Some mention.kind
    pub same_class : loc_class (sheet_naming sheet) number ≡ Some mention.class

  pub record IsNumSaid (mention : OwnedMention) : Type 0 where
    pub number : ℕ
    pub named : slice_get sheet.names.nums number ≡ Some mention.name
    pub stored : mention.kind ≡ codes "sto"
    pub same_class : num_class (sheet_naming sheet) number ≡ Some mention.class

  abbrev pub IsSaid : Part → Type 0
  IsSaid (form at rule.Location parts from) = IsLocSaid (mention_of parts)
  IsSaid (form at rule.Counter parts from) = IsNumSaid (mention_of parts)
  IsSaid part = Unit {0}

  -- none of the faults that a part has by itself, with no part before it, and a mention that agrees with the sheet
  pub record IsSound (part : Part) : Type 0 where
    pub once : is_twice [] part ≡ false
    pub known : is_unknown all [] part ≡ false
    pub kind_fits : is_wrong_kind [] part ≡ false
    pub shallow : is_too_deep part ≡ false
    pub said : IsSaid part

  abbrev pub AllSound : List Part → Type 0
  AllSound parts = AllByRecursion IsSound parts

  pub all_join : (xs ys : List Part) → AllSound xs → AllSound ys → AllSound (xs ++ ys)
  all_join xs ys first second = append_each IsSound xs ys first second

  -- nothing is wanted of a part by its role
  pub record IsPlain (at : Standing) : Type 0 where
    pub other : is_other_side at at.role ≡ false
    pub named : (bytes : List ℕ) → is_unnamed all at.role bytes ≡ false
    pub placed : (mention : OwnedMention) → is_misplaced at.role mention ≡ false

  pub no_role_plain : (place : Symbol) (around : Around) (beside : Trees) (above : List (List ℕ))
      → IsPlain (standing place around no_role beside above)
  no_role_plain place around beside above = record { other = refl; named = λ bytes. refl; placed = λ mention. refl }

  -- all parts of a tree are sound at a place of which nothing more is wanted
  abbrev pub Sound : Symbol → Around → Tree → Type 0
  Sound place around tree =
      (role : Role) (beside : Trees) (above : List (List ℕ)) → IsPlain (standing place around role beside above)
      → AllSound (parts_at (Some (standing place around role beside above)) tree)

  -- and without a role
  pub sound_alone : (place : Symbol) (around : Around) (tree : Tree) (beside : Trees) (above : List (List ℕ))
      → Sound place around tree → AllSound (parts_at (Some (standing place around no_role beside above)) tree)
  sound_alone place around tree beside above sound =
      sound no_role beside above (no_role_plain place around beside above)

  -- ATOMS

  -- no part before is in the first teams
  no_player_again : (place : Symbol) (bytes : List ℕ) → is_player_again [] place bytes ≡ false
  no_player_again symbol.Member bytes = refl
  no_player_again place bytes = refl

  known_player : (place : Symbol) (bytes : List ℕ) → is_no_player all [] place bytes ≡ false
  known_player symbol.Member bytes = refl
  known_player place bytes = refl

  none_of_three : (a b c : Bool) → a ≡ false → b ≡ false → c ≡ false → (a || b || c) ≡ false
  none_of_three a b c is is' is'' = subst (λ x. (x || b || c) ≡ false) (sym is)
      (subst (λ y. (false || y || c) ≡ false) (sym is') is'')

  pub atom_sound : (at : Standing) (bytes : List ℕ) (from : ℕ) → is_unbound at bytes ≡ false
      → is_unnamed all at.role bytes ≡ false → is_misused at bytes ≡ false → is_other_side at at.role ≡ false
      → IsSound (atom at bytes from)
  atom_sound at bytes from bound named used other =
      record {
        once = no_player_again at.place bytes;
        known = none_of_three (is_unbound at bytes) (is_unnamed all at.role bytes) (is_no_player all [] at.place bytes)
            bound named (known_player at.place bytes);
        kind_fits = or_from (is_misused at bytes) (is_other_side at at.role) used other;
        shallow = refl;
        said = tt;
      }

  -- a test that fails between others
  middle_false : (a b c : Bool) → b ≡ false → (a && b && c) ≡ false
  middle_false true true c is = absurd cc
  middle_false true false c is = refl
  middle_false false b c is = refl

  first_false : (a b c : Bool) → a ≡ false → (a && b && c) ≡ false
  first_false a b c is = subst (λ a. (a && b && c) ≡ false) (sym is) refl

  -- where a place takes no variables
  pub plain_atom : (at : Standing) (bytes : List ℕ) (from : ℕ) → some_of (sorts_at at.place) ≡ false
      → is_unnamed all at.role bytes ≡ false → is_other_side at at.role ≡ false → IsSound (atom at bytes from)
  plain_atom at bytes from none named other =
      atom_sound at bytes from
      (middle_false (is_variable bytes) (some_of (sorts_at at.place)) _ none) named
      (middle_false (is_variable bytes) (some_of (sorts_at at.place)) _ none) other

  -- where the word is no variable
  pub constant_atom : (at : Standing) (bytes : List ℕ) (from : ℕ) → is_variable bytes ≡ false
      → is_unnamed all at.role bytes ≡ false → is_other_side at at.role ≡ false → IsSound (atom at bytes from)
  constant_atom at bytes from none named other =
      atom_sound at bytes from
      (first_false (is_variable bytes) (some_of (sorts_at at.place)) _ none) named
      (first_false (is_variable bytes) (some_of (sorts_at at.place)) _ none) other

  -- an atom of a place without variables is sound wherever it stands so
  pub plain_word : (place : Symbol) (around : Around) (bytes : List ℕ) (from to : ℕ) → some_of (sorts_at place) ≡ false
      → Sound place around (word bytes from to)
  plain_word place around bytes from to none role beside above plain =
      (plain_atom (standing place around role beside above) bytes from none (plain.named bytes) plain.other, tt)

  -- LISTS

  -- what holds of a form, and of its parts, wherever it stands
  abbrev pub FormSound : Rule → Around → Trees → Type 0
  FormSound r around parts =
      (place : Symbol) (role : Role) (beside : Trees) (above : List (List ℕ)) (from : ℕ)
      → IsPlain (standing place around role beside above)
      → IsSound (form (standing place around role beside above) r parts from)

  abbrev pub InnerSound : Rule → Around → Trees → Type 0
  InnerSound r around parts =
      (place : Symbol) (role : Role) (beside : Trees) (above : List (List ℕ))
      → AllSound (parts_in (standing place around role beside above) r parts 0 parts)

  -- a list whose rule is known
  pub list_sound : (at : Standing) (r : Rule) (parts : Trees) (from to : ℕ) → rule_of at.place parts ≡ Some r
      → IsSound (form at r parts from) → AllSound (parts_in at r parts 0 parts)
      → AllSound (parts_at (Some at) (list parts from to))
  list_sound at r parts from to told outer inner =
      subst (λ o. AllSound (with_form at parts from (λ rule. parts_in at rule parts 0 parts) o)) (sym told) (outer, inner)

  pub sound_list : (place : Symbol) (r : Rule) (around : Around) (parts : Trees) (from to : ℕ) → rule_of place parts ≡ Some r
      → FormSound r around parts → InnerSound r around parts → Sound place around (list parts from to)
  sound_list place r around parts from to told outer inner role beside above plain =
      list_sound (standing place around role beside above) r parts from to told (outer place role beside above from plain)
      (inner place role beside above)

  -- a form of which nothing is wanted by itself
  pub easy_sound : (r : Rule) → is_easy r ≡ true → (around : Around) (parts : Trees) → FormSound r around parts
  easy_sound rule.CreateTeams is around parts p role b a from plain = absurd cc
  easy_sound rule.Group is around parts p role b a from plain = absurd cc
  easy_sound rule.CurrentPlayer is around parts p role b a from plain = absurd cc
  easy_sound rule.Known is around parts p role b a from plain = absurd cc
  easy_sound rule.CurrentTeam is around parts p role b a from plain = absurd cc
  easy_sound rule.Choice is around parts p role b a from plain = absurd cc
  easy_sound rule.Next is around parts p role b a from plain = absurd cc
  easy_sound rule.Reverse is around parts p role b a from plain = absurd cc
  easy_sound rule.Repeat is around parts p role b a from plain = absurd cc
  easy_sound rule.Location is around parts p role b a from plain = absurd cc
  easy_sound rule.Counter is around parts p role b a from plain = absurd cc
  easy_sound rule.Filter is around parts p role b a from plain = absurd cc
  easy_sound rule.AnyOf is around parts p role b a from plain = absurd cc
  easy_sound rule.Each is around parts p role b a from plain = absurd cc
  easy_sound rule.ForAll is around parts p role b a from plain = absurd cc
  easy_sound rule.ForAny is around parts p role b a from plain = absurd cc
  easy_sound r is around parts p role b a from plain =
      record { once = refl; known = refl; kind_fits = plain.other; shallow = refl; said = tt }

  -- a part of a list whose standing is known, before others
  pub told_then : (found : Option Standing) (at : Standing) (tree : Tree) (later : List Part) → found ≡ Some at
      → AllSound (parts_at (Some at) tree) → AllSound later → AllSound (parts_at found tree ++ later)
  told_then found at tree later is sound more =
      all_join (parts_at found tree) later (subst (λ o. AllSound (parts_at o tree)) (sym is) sound) more

  -- parts of one place, behind the first ones
  pub rest_sound : (up : ℕ → ℕ) → ((k : ℕ) → up k + 1 ≡ up (suc k)) → (at : Standing) (r : Rule) (parts : Trees) (q : Symbol)
      (around : Around) (above : List (List ℕ))
      → ((k : ℕ) → standing_in at r parts (up k) ≡ Some (standing q around no_role parts above))
      → (k : ℕ) (trees : Trees) → Each (Sound q around) trees → AllSound (parts_in at r parts (up k) trees)
  rest_sound up next at r parts q around above stands k nil each = tt
  rest_sound up next at r parts q around above stands k (cons tree trees) each =
      all_join (parts_at (standing_in at r parts (up k)) tree) (parts_in at r parts (up k + 1) trees)
      (subst (λ o. AllSound (parts_at o tree)) (sym (stands k)) (sound_alone q around tree parts above each.0))
      (subst (λ i. AllSound (parts_in at r parts i trees)) (sym (next k))
      (rest_sound up next at r parts q around above stands (suc k) trees each.1))

  -- what the setup of the sheet gives the parts give
  pub record AreGiven : Type 0 where
    pub attrs : (n : ℕ) (bytes : List ℕ) → slice_get sheet.names.attrs n ≡ Some bytes → IsAttr sheet n
        → is_named bytes (flat_map attributes_in all) ≡ true
    pub values : (n : ℕ) (bytes : List ℕ) → slice_get sheet.names.values n ≡ Some bytes → IsValue sheet n
        → is_named bytes (flat_map values_in all) ≡ true
    pub maps : (n : ℕ) (bytes : List ℕ) → slice_get sheet.names.maps n ≡ Some bytes → IsMap sheet n
        → is_named bytes (flat_map maps_in all) ≡ true
