-- The trick game is accepted.
use Rattle.std.proofs.Common.{◌≡◌, ℕ, List, [], ◌∷◌, length, map, None, refl, sym, ap, subst, ◌∙◌, arith}
use Rattle.std.specs.List.{Contains}
use Rattle.rc_base.specs.Token.{tokens}
use Rattle.rc_base.specs.Tree.{Tree}
use Rattle.rc_base.specs.Spelled.{Spelled}
use Rattle.rc_form.specs.FormFault.{IsFormFault}
use Rattle.rc_form.specs.declared.fault.FormKind.{FormKind}
use Rattle.rc_form.proofs.SpellingLaws.{Spelled-from_read, Spelled-unique}
use Rattle.rc_form.proofs.ReadIsFault.{no_fault-from_read}
use Rattle.rc_form.proofs.AtomsAreRead.{of_atoms-first}
use Rattle.rc_form.proofs.TopLists.{fits-first}
use Rattle.rc_sheet_spec.specs.Sheet.{Sheet}
use Rattle.rc_sheet_spec.specs.Sight.{IsInSight, IsUnseen}
use Rattle.rc_check.specs.SecondFaults.{sheet_fault}
use Rattle.rc_resolve.specs.Naming.{naming_of}
use Rattle.rc_sheet.proofs.Accepted.{printable, stands_read, well_read}
use Rattle.rc_sheet.specs.Accepted.{IsSheetOf}
use Rattle.rc_sheet.proofs.One.Sheet.{one_well_formed}
use Rattle.rc_trick.specs.Trick.{trick_text, IsTrickGame}
use Rattle.rc_trick.proofs.Computed.{trick_form, form_is_read, no_part_fault, sheet_is_read}

-- THE FORM

-- the text spells it and nothing else
trick_spelled : Spelled trick_text 1 (trick_form ∷ []) (length trick_text)
trick_spelled = Spelled-from_read trick_text 1 (trick_form ∷ []) [] (length trick_text) form_is_read refl

-- so does whatever the text is said to spell
only_spelled : (forms : List Tree) (rest : ℕ) → Spelled trick_text 1 forms rest
    → (forms ≡ trick_form ∷ []) × (rest ≡ length trick_text)
only_spelled = Spelled-unique trick_text 1 (trick_form ∷ []) [] (length trick_text) form_is_read refl

pub one_form : (forms : List Tree) (rest : ℕ) → Spelled trick_text 1 forms rest
    → (form : Tree) × (forms ≡ form ∷ []) × (rest ≡ length trick_text)
one_form forms rest spelled = let only = only_spelled forms rest spelled in (trick_form, only.0, only.1)

-- the first of some forms
abbrev first_or : Tree → List Tree → Tree
first_or other [] = other
first_or other (form ∷ forms) = form

same_form : (form : Tree) (others : List Tree) (rest : ℕ) → Spelled trick_text 1 (form ∷ others) rest → form ≡ trick_form
same_form form others rest spelled = ap (first_or form) (only_spelled (form ∷ others) rest spelled).0

-- no byte and no list of the text has a fault
pub no_form_fault : (kind : FormKind) (at : ℕ) → IsFormFault trick_text 1 kind at → ⊥
no_form_fault = no_fault-from_read 1 (tokens trick_text) (trick_form ∷ []) [] form_is_read

-- no part of the form has one
pub no_fault : (form : Tree) (others : List Tree) (rest : ℕ) → Spelled trick_text 1 (form ∷ others) rest
    → sheet_fault form ≡ None
no_fault form others rest spelled = ap sheet_fault (same_form form others rest spelled) ∙ no_part_fault

-- THE SHEET

trick_sheet : Sheet
trick_sheet = sheet_is_read.sheet

-- it is that of the form
is_sheet : IsSheetOf trick_form trick_sheet
unfolding trick_sheet
is_sheet =
    let shallow = fits-first trick_text 1 trick_form [] (length trick_text) trick_spelled in
    let atoms = of_atoms-first trick_text 1 trick_form [] (length trick_text) trick_spelled in
    record {
      faultless = no_part_fault;
      stands = stands_read (naming_of trick_form) trick_form sheet_is_read.sheet sheet_is_read.is;
      well = well_read (naming_of trick_form) trick_form sheet_is_read.sheet refl no_part_fault
          (printable trick_form no_part_fault shallow) atoms sheet_is_read.is;
    }

-- it has four players, and keeps the rule of sight
four_players : trick_sheet.players ≡ 4
unfolding trick_sheet
four_players = sheet_is_read.players

in_sight : IsInSight trick_sheet
unfolding trick_sheet
in_sight = sheet_is_read.sight

trick_game : IsTrickGame trick_sheet
trick_game =
    record {
      form = trick_form;
      rest = length trick_text;
      spelled = trick_spelled;
      accepted = record { of_form = is_sheet; sight = in_sight };
    }

pub some_game : (sheet : Sheet) × IsTrickGame sheet
some_game = (trick_sheet, trick_game)

-- each sheet of a form that the text spells is that one
same_sheet : (form : Tree) (others : List Tree) (rest : ℕ) (sheet : Sheet) → Spelled trick_text 1 (form ∷ others) rest
    → IsSheetOf form sheet → sheet ≡ trick_sheet
same_sheet form others rest sheet spelled is =
    let same = same_form form others rest spelled in
    let is' : IsSheetOf trick_form sheet = subst (λ form. IsSheetOf form sheet) same is in
    one_well_formed trick_form trick_sheet sheet no_part_fault is_sheet.stands is_sheet.well is'.stands is'.well

pub read_game : (form : Tree) (others : List Tree) (rest : ℕ) (sheet : Sheet) → Spelled trick_text 1 (form ∷ others) rest
    → IsSheetOf form sheet → IsTrickGame sheet
read_game form others rest sheet spelled is = subst IsTrickGame (sym (same_sheet form others rest sheet spelled is)) trick_game

-- a sheet of the trick game is that one
same_game : (sheet : Sheet) → IsTrickGame sheet → sheet ≡ trick_sheet
same_game sheet game = same_sheet game.form [] game.rest sheet game.spelled game.accepted.of_form

pub one_game : (sheet other : Sheet) → IsTrickGame sheet → IsTrickGame other → other ≡ sheet
one_game sheet other game game' = same_game other game' ∙ sym (same_game sheet game)

pub game_players : (sheet : Sheet) → IsTrickGame sheet → sheet.players ≡ 4
game_players sheet game = ap (λ (sheet : Sheet). sheet.players) (same_game sheet game) ∙ four_players

-- where all are in sight, none is the first out of sight
pub none_unseen : (sheet : Sheet) (at : ℕ) → IsInSight sheet → IsUnseen sheet at → ⊥
none_unseen sheet at none is =
    let has = subst (λ locs. Contains (map (λ loc. loc.at) locs) at) none is.stands in omega (arith, has.1)

pub no_sight_fault : (form : Tree) (others : List Tree) (rest : ℕ) (sheet : Sheet) (at : ℕ)
    → Spelled trick_text 1 (form ∷ others) rest → IsSheetOf form sheet → IsUnseen sheet at → ⊥
no_sight_fault form others rest sheet at spelled is =
    none_unseen sheet at (read_game form others rest sheet spelled is).accepted.sight
