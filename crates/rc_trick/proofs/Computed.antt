-- The form of the trick game and the sheet that is read off it, computed.
use Rattle.std.proofs.Common.{◌≡◌, ℕ, List, [], ◌∷◌, Option, Some, None, Ok, refl, ap}
use Rattle.std.specs.Option.{option_map}
use Rattle.rc_base.specs.Token.{tokens}
use Rattle.rc_base.specs.Tree.{Tree, list, nil}
use Rattle.rc_form.specs.Read.{Reading, read}
use Rattle.rc_sheet_spec.specs.Sheet.{Sheet, Loc}
use Rattle.rc_sheet_spec.specs.Sight.{unseen_locs, IsInSight}
use Rattle.rc_check.specs.SecondFaults.{sheet_fault}
use Rattle.rc_resolve.specs.Naming.{naming_of}
use Rattle.rc_sheet.specs.ReadSheet.{setup_form_at, game_parts, sheet_at}
use Rattle.rc_sheet.specs.ReadExpressions.{side_word}
use Rattle.rc_sheet.specs.ReadSetup.{count_at, deck_at, points_at, players_line, deck_line, points_line, line_at}
use Rattle.rc_sheet.specs.ReadNames.{name_at, binder_at, variable_in, owner_at, loc_parts, loc_at, num_parts, num_at, map_at}
use Rattle.rc_trick.specs.Trick.{trick_text}

-- the first of the lists that are read
abbrev first_form : Reading → Tree
first_form (Ok ((form ∷ forms), later)) = form
first_form other = list nil 0 0

-- the form of the text
pub trick_form : Tree
trick_form = first_form (read 1 [] [] (tokens trick_text))

-- it is read, and nothing follows
pub form_is_read : read 1 [] [] (tokens trick_text) ≡ Ok (trick_form ∷ [], [])
unfolding trick_form
form_is_read = refl

-- no part of it has a fault
pub no_part_fault : sheet_fault trick_form ≡ None
unfolding trick_form
no_part_fault = refl

-- how many players a sheet has, and which locations are out of sight
abbrev told : Sheet → ℕ × List Loc
told sheet = (sheet.players, unseen_locs sheet)

-- a sheet is read off it
told_of_form : option_map told (sheet_at (naming_of trick_form) trick_form) ≡ Some (4, [])
unfolding trick_form setup_form_at game_parts sheet_at side_word count_at deck_at points_at players_line deck_line points_line line_at name_at binder_at variable_in owner_at loc_parts loc_at num_parts num_at map_at
told_of_form = refl

-- what is read, where that is told of it
pub record IsRead (read : Option Sheet) : Type 0 where
  pub sheet : Sheet
  pub is : read ≡ Some sheet
  pub players : sheet.players ≡ 4
  pub sight : IsInSight sheet

abbrev told_or : ℕ × List Loc → Option (ℕ × List Loc) → ℕ × List Loc
told_or other None = other
told_or other (Some found) = found

is_read : (read : Option Sheet) → option_map told read ≡ Some (4, []) → IsRead read
is_read None is = absurd cc
is_read (Some sheet) is =
    let same = ap (told_or (4, [])) is in
    record { sheet = sheet; is = refl; players = ap (λ t. t.0) same; sight = ap (λ t. t.1) same }

-- the sheet has four players, and keeps the rule of sight
pub sheet_is_read : IsRead (sheet_at (naming_of trick_form) trick_form)
sheet_is_read = is_read (sheet_at (naming_of trick_form) trick_form) told_of_form
