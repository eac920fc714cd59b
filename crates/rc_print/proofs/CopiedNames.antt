-- Names, variables, numbers, owners and locations, printed in the place of their forms.
use Prim.Native.String.{String}
use Rattle.std.proofs.Common.{◌≡◌, ℕ, Bool, true, false, List, [], ◌∷◌, ◌++◌, map, codes, get_or, slice_get, Option, Some, None, option_map, ℤ, refl, sym, subst, ap, ◌∙◌, inl, inr}
use Rattle.std.specs.List.{list_all}
use Rattle.std.proofs.lemmas.Bool.{and_parts, and_from}
use Rattle.std.proofs.lemmas.List.{map-append}
use Rattle.std.proofs.lemmas.List.Folds.{list_all-append}
use Rattle.std.proofs.lemmas.List.Sums.{AllPass-from_list_all}
use Rattle.std.proofs.lemmas.Option.{same_Some, get_or_from_slice_get, slice_get_within, slice_get-map}
use Rattle.rc_base.specs.Tree.{Tree, word, list}
use Rattle.rc_sheet_spec.specs.Sheet.{Sort, LocKind, vloc, iloc, hloc, mem, LocName, Who, game, current_player, current_team, team_of_current, team_of_var, who_var, Loc, Num, Sheet, player_sort}
use Rattle.rc_sheet_spec.specs.Rows.{◌▸◌, End, Row, Atom}
use Rattle.rc_base.specs.Words.{is_variable}
use Rattle.rc_sheet_spec.specs.Naming.{Naming, Scope, bind, self_scope, kind_word, Named, Binder, InScope, Literal, KindOf, sheet_naming}
use Rattle.rc_sheet_spec.specs.Printing.{keyword, row, named, number_form, Bound, binding, who_form, kind_bytes, kind_form, loc_form, num_form, one, two, with_map}
use Rattle.rc_sheet_spec.specs.StandsExpressions.{StandsOwner, StandsHolder, StandsLoc, StandsNum, Two, TwoOwners}
use Rattle.rc_sheet_spec.specs.WellFormed.{is_atom, is_plain_word, is_variable_word, HasWords}
use Rattle.rc_print.specs.Respelled.{IsWordRespelled}
use Rattle.rc_print.specs.Unplaced.{loc_unplaced}
use Rattle.rc_print.proofs.PrintedNumbers.{printed_literal}
use Rattle.rc_print.proofs.Copied.{Good, Copies, keyword_copied, word_copied, row_copied, part_copied, end_copied}

-- rows of a head and one or two parts
pub one_copied : {A B : Tree → Type 0} {tree : Tree} (head : String) → is_atom (codes head) ≡ true → Copies A B tree
    → Copies (Row (Atom head ▸ A ▸ End)) (Row (Atom head ▸ B ▸ End)) (one head tree)
one_copied head is part = row_copied (part_copied (keyword_copied head is) (part_copied part end_copied))

pub two_copied : {A B C D : Tree → Type 0} {tree other : Tree} (head : String) → is_atom (codes head) ≡ true → Copies A B tree
    → Copies C D other → Copies (Two head A C) (Two head B D) (two head tree other)
two_copied head is first second = row_copied (part_copied (keyword_copied head is)
    (part_copied first (part_copied second end_copied)))

-- a word of a list of atoms
listed_atom : (test : List ℕ → Bool) → ((bytes : List ℕ) → test bytes ≡ true → is_atom bytes ≡ true) → (words : List (List ℕ))
    (n : ℕ) (bytes : List ℕ) → list_all test words ≡ true → slice_get words n ≡ Some bytes
    → (get_or words n [] ≡ bytes) × (is_atom bytes ≡ true)
listed_atom test atoms words n bytes all is =
    let same : get_or words n [] ≡ bytes = get_or_from_slice_get words n bytes [] is in
    let passes = AllPass-from_list_all test words all n [] (slice_get_within words n bytes is) in
    (same, subst (λ w. is_atom w ≡ true) same (atoms (get_or words n []) passes))

plain_at : (words : List (List ℕ)) (n : ℕ) (bytes : List ℕ) → list_all is_plain_word words ≡ true → slice_get words n ≡ Some bytes
    → (get_or words n [] ≡ bytes) × (is_atom bytes ≡ true)
plain_at = listed_atom is_plain_word (λ bytes is. (and_parts _ _ is).0)

variable_at : (words : List (List ℕ)) (n : ℕ) (bytes : List ℕ) → list_all is_variable_word words ≡ true → slice_get words n
    ≡ Some bytes
    → (get_or words n [] ≡ bytes) × (is_atom bytes ≡ true)
variable_at = listed_atom is_variable_word (λ bytes is. (and_parts _ _ is).0)

pub named_copied : (words : List (List ℕ)) (n : ℕ) → list_all is_plain_word words ≡ true
    → Copies (Named words n) (Named words n) (named words n)
named_copied words n all =
    word_copied (λ bytes stands.
    let at = plain_at words n bytes all stands.0 in
    subst (λ w. ((slice_get words n ≡ Some w) × (is_variable w ≡ false)) × (is_atom w ≡ true) × IsWordRespelled bytes w)
    (sym at.0) (stands, at.1, inl refl))

pub literal_copied : (value : ℤ) → Copies (Literal value) (Literal value) (number_form value)
literal_copied value = word_copied (λ bytes stands.
    let is = printed_literal value bytes stands in (is.0, is.1, inr (value, stands, refl)))

-- the words of a scope
pub record Fits (scope : Scope) (bound : Bound) : Type 0 where
  pub same : bound ≡ map (λ variable. variable.word) scope
  pub atoms : list_all is_atom bound ≡ true

pub none_fit : Fits [] []
none_fit = record { same = refl; atoms = refl }

pub self_fits : Fits self_scope (codes "'SELF" ∷ [])
self_fits = record { same = refl; atoms = refl }

pub in_scope_copied : {scope : Scope} {bound : Bound} → Fits scope bound → (sort : Sort) (var : ℕ)
    → Copies (InScope scope sort var) (InScope scope sort var) (named bound var)
in_scope_copied {scope = scope} {bound = bound} fits sort var =
    word_copied (λ bytes stands.
    let is : slice_get bound var ≡ Some bytes =
    ap (λ words. slice_get words var) fits.same ∙ slice_get-map (λ variable. variable.word) scope var
    ∙ ap (option_map (λ variable. variable.word)) stands.0 in
    let at = listed_atom is_atom (λ w atom. atom) bound var bytes fits.atoms is in
    subst (λ w. ((slice_get scope var ≡ Some (record { word = w; sort = sort })) × (is_variable w ≡ true)) ×
    (is_atom w ≡ true) × IsWordRespelled bytes w) (sym at.0) (stands, at.1, inl refl))

-- owners
current_copied : Copies (Row (Atom "current" ▸ Atom "player" ▸ End)) (Row (Atom "current" ▸ Atom "player" ▸ End))
    (row (keyword "current" ∷ keyword "player" ∷ []))
current_copied = one_copied "current" refl (keyword_copied "player" refl)

current_team_copied : Copies (Row (Atom "current" ▸ Atom "team" ▸ End)) (Row (Atom "current" ▸ Atom "team" ▸ End))
    (row (keyword "current" ∷ keyword "team" ∷ []))
current_team_copied = one_copied "current" refl (keyword_copied "team" refl)

team_copied : {A : Tree → Type 0} {tree : Tree} → Copies A A tree
    → Copies (Row (Atom "team" ▸ Atom "of" ▸ A ▸ End)) (Row (Atom "team" ▸ Atom "of" ▸ A ▸ End))
    (row (keyword "team" ∷ keyword "of" ∷ tree ∷ []))
team_copied part = two_copied "team" refl (keyword_copied "of" refl) part

pub owner_copied : {scope : Scope} {bound : Bound} → Fits scope bound → (who : Who)
    → Copies (StandsOwner scope who) (StandsOwner scope who) (who_form bound who)
owner_copied fits game = record { of = λ form stands. absurd stands }
owner_copied fits current_player = record { of = current_copied.of }
owner_copied fits current_team = record { of = current_team_copied.of }
owner_copied fits team_of_current = record { of = (team_copied current_copied).of }
owner_copied fits (team_of_var var) = record { of = (team_copied (in_scope_copied fits player_sort var)).of }
owner_copied fits (who_var var) = record { of = (in_scope_copied fits player_sort var).of }

pub holder_copied : {scope : Scope} {bound : Bound} → Fits scope bound → (who : Who)
    → Copies (StandsHolder scope who) (StandsHolder scope who) (who_form bound who)
holder_copied fits game = keyword_copied "game" refl
holder_copied fits current_player = owner_copied fits current_player
holder_copied fits current_team = owner_copied fits current_team
holder_copied fits team_of_current = owner_copied fits team_of_current
holder_copied fits (team_of_var var) = owner_copied fits (team_of_var var)
holder_copied fits (who_var var) = owner_copied fits (who_var var)

-- two owners of one class
pub owners_copied : {scope : Scope} {bound : Bound} (head : String) → is_atom (codes head) ≡ true → Fits scope bound
    → (who who' : Who)
    → Copies (TwoOwners head scope who who') (TwoOwners head scope who who') (two head (who_form bound who) (who_form bound who'))
owners_copied {scope = scope} {bound = bound} head is fits who who' = record { of = of }
  where
    both : Copies (Two head (StandsOwner scope who) (StandsOwner scope who'))
        (Two head (StandsOwner scope who) (StandsOwner scope who'))
        (two head (who_form bound who) (who_form bound who'))
    both = two_copied head is (owner_copied fits who) (owner_copied fits who')

    of : (form : Tree) → TwoOwners head scope who who' form
        → Good (TwoOwners head scope who who') form (two head (who_form bound who) (who_form bound who'))
    of form stands = let good = both.of form stands.0 in ((good.0, stands.1), good.1, good.2)

-- the kind of a location
kind_atom : (kind : LocKind) → is_atom (kind_word kind) ≡ true
kind_atom vloc = refl
kind_atom iloc = refl
kind_atom hloc = refl
kind_atom mem = refl

kind_is : (found : Option LocName) (bytes : List ℕ) → option_map (λ loc. kind_word loc.kind) found ≡ Some bytes
    → (option_map (λ loc. kind_word loc.kind) found ≡ Some (kind_bytes found)) × (is_atom (kind_bytes found) ≡ true)
    × IsWordRespelled bytes (kind_bytes found)
kind_is None bytes is = absurd cc
kind_is (Some loc) bytes is = (refl, kind_atom loc.kind, inl (same_Some (kind_word loc.kind) bytes is))

pub kind_copied : (naming : Naming) (name : ℕ) → Copies (KindOf naming name) (KindOf naming name) (kind_form naming name)
kind_copied naming name = word_copied (λ bytes stands. kind_is (slice_get naming.locs name) bytes stands)

module _ (sheet : Sheet) (words : HasWords sheet) where
  abbrev naming : Naming
  naming = sheet_naming sheet

  pub binder_copied : (var : ℕ) → Copies (Binder naming var) (Binder naming var) (named sheet.names.vars var)
  binder_copied var =
      word_copied (λ bytes stands.
      let at = variable_at sheet.names.vars var bytes words.vars stands.0 in
      subst (λ w. ((slice_get sheet.names.vars var ≡ Some w) × (is_variable w ≡ true)) ×
      (is_atom w ≡ true) × IsWordRespelled bytes w) (sym at.0)
      (stands, at.1, inl refl))

  -- the scope behind a binder
  pub bind_fits : {scope : Scope} {bound : Bound} → Fits scope bound → (sort : Sort) (var : ℕ) (form : Tree)
      → Binder naming var form
      → Fits (bind naming scope var sort) (binding naming bound var)
  bind_fits {scope = scope} {bound = bound} fits sort var (word bytes from to) stands =
      let at = variable_at sheet.names.vars var bytes words.vars stands.0 in
      let w = get_or sheet.names.vars var [] in
      let atom : is_atom w ≡ true = subst (λ w. is_atom w ≡ true) (sym at.0) at.1 in
      record {
        same = ap (λ b. b ++ w ∷ []) fits.same ∙ sym (map-append (λ variable. variable.word) scope
            (record { word = w; sort = sort } ∷ []));
        atoms = list_all-append is_atom bound (w ∷ []) ∙ and_from _ _ fits.atoms (and_from _ _ atom refl);
      }
  bind_fits fits sort var (list parts from to) stands = absurd stands

  pub with_map_copied : {A B : Tree → Type 0} {tree : Tree} (head : String) → is_atom (codes head) ≡ true → Copies A B tree
      → (map : ℕ)
      → Copies (Row (Atom head ▸ A ▸ Atom "using" ▸ Named sheet.names.maps map ▸ End))
      (Row (Atom head ▸ B ▸ Atom "using" ▸ Named sheet.names.maps map ▸ End)) (with_map naming head tree map)
  with_map_copied head is part map =
      row_copied (part_copied (keyword_copied head is) (part_copied part (part_copied (keyword_copied "using" refl)
      (part_copied (named_copied sheet.names.maps map words.maps) end_copied))))

  abbrev LocParts : Scope → Loc → Tree → Type 0
  LocParts scope loc = Row (StandsHolder scope loc.who ▸ KindOf naming loc.name ▸ Named sheet.names.locs loc.name ▸ End)

  loc_parts_copied : {scope : Scope} {bound : Bound} → Fits scope bound → (loc : Loc)
      → Copies (LocParts scope loc) (LocParts scope loc) (loc_form naming bound loc)
  loc_parts_copied fits loc =
      row_copied (part_copied (holder_copied fits loc.who) (part_copied (kind_copied naming loc.name)
      (part_copied (named_copied sheet.names.locs loc.name words.locs) end_copied)))

  pub loc_copied : {scope : Scope} {bound : Bound} → Fits scope bound → (loc : Loc)
      → Copies (StandsLoc naming scope loc) (StandsLoc naming scope (loc_unplaced loc)) (loc_form naming bound loc)
  loc_copied {scope = scope} {bound = bound} fits loc = record { of = of }
    where
      of : (form : Tree) → StandsLoc naming scope loc form → Good (StandsLoc naming scope (loc_unplaced loc)) form
          (loc_form naming bound loc)
      of form stands = let good = (loc_parts_copied fits loc).of form stands.0 in ((good.0, stands.1, refl), good.1, good.2)

  abbrev NumParts : Scope → Num → Tree → Type 0
  NumParts scope num = Row (StandsHolder scope num.who ▸ Atom "sto" ▸ Named sheet.names.nums num.name ▸ End)

  num_parts_copied : {scope : Scope} {bound : Bound} → Fits scope bound → (num : Num)
      → Copies (NumParts scope num) (NumParts scope num) (num_form naming bound num)
  num_parts_copied fits num =
      row_copied (part_copied (holder_copied fits num.who) (part_copied (keyword_copied "sto" refl)
      (part_copied (named_copied sheet.names.nums num.name words.nums) end_copied)))

  pub num_copied : {scope : Scope} {bound : Bound} → Fits scope bound → (num : Num)
      → Copies (StandsNum naming scope num) (StandsNum naming scope num) (num_form naming bound num)
  num_copied {scope = scope} {bound = bound} fits num = record { of = of }
    where
      of : (form : Tree) → StandsNum naming scope num form → Good (StandsNum naming scope num) form (num_form naming bound num)
      of form stands = let good = (num_parts_copied fits num).of form stands.0 in ((good.0, stands.1), good.1, good.2)
