-- Which forms stand for alternatives and items.
use Rattle.std.specs.Prelude.{List, [], ◌∷◌}
use Rattle.rc_base.specs.Tree.{Tree, Trees}
use Rattle.rc_sheet_spec.specs.Sheet.{Class, game_class, player_class, team_class, Alt, do_alt, if_alt, any_alt, SheetItem, do_item, stage, choice, SheetItems, no_item, item}
use Rattle.rc_sheet_spec.specs.Rows.{◌▸◌, End, Some, Row, Atom}
use Rattle.rc_sheet_spec.specs.Naming.{Naming, Scope, bind, sort_of, Binder}
use Rattle.rc_sheet_spec.specs.StandsExpressions.{StandsTest, StandsDomain}
use Rattle.rc_sheet_spec.specs.StandsEffects.{StandEffects}

-- ALT
abbrev pub StandsAlt : Naming → Scope → Alt → Tree → Type 0
StandsAlt naming scope (do_alt effects) = Row (Atom "do" ▸ Some (StandEffects naming scope effects))
StandsAlt naming scope (if_alt guard effects) =
    Row (Atom "if" ▸ StandsTest naming scope guard ▸ Some (StandEffects naming scope effects))
StandsAlt naming scope (any_alt domain bound alt) =
    Row (Atom "any" ▸ StandsDomain naming scope domain ▸ Binder naming bound
    ▸ StandsAlt naming (bind naming scope bound (sort_of domain)) alt ▸ End)

abbrev pub StandAlts : Naming → List Alt → Trees → Type 0
StandAlts naming [] = End
StandAlts naming (alt ∷ alts) = StandsAlt naming [] alt ▸ StandAlts naming alts

-- whose turns a stage's rounds are
abbrev pub StandsClass : Class → Tree → Type 0
StandsClass game_class = λ form. ⊥
StandsClass player_class = Atom "player"
StandsClass team_class = Atom "team"

abbrev mutual
  -- ITEM
  pub StandsItem : Naming → SheetItem → Tree → Type 0
  StandsItem naming (do_item effects) = Row (Atom "do" ▸ Some (StandEffects naming [] effects))
  StandsItem naming (stage number class end body) =
      Row (Atom "stage" ▸ StandsClass class ▸ Row (Atom "end" ▸ StandsTest naming [] end ▸ End)
      ▸ Some (StandItems naming body End))
  StandsItem naming (choice site alts) = Row (Atom "choice" ▸ Some (StandAlts naming alts))

  -- items, and what follows them
  pub StandItems : Naming → SheetItems → (Trees → Type 0) → Trees → Type 0
  StandItems naming no_item Rest = Rest
  StandItems naming (item i items) Rest = StandsItem naming i ▸ StandItems naming items Rest
