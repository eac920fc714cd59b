-- What a whole form says.
use Rattle.std.specs.Prelude.{Option, Some, None}
use Rattle.rc_base.specs.Tree.{Tree, word, list, Trees, cons}
use Rattle.rc_sheet_spec.specs.Sheet.{SheetItems, Best, IntExpr, Sheet}
use Rattle.rc_sheet_spec.specs.Naming.{Naming}
use Rattle.rc_sheet.specs.ReadNames.{◌>>=◌, rule_at}
use Rattle.rc_sheet.specs.ReadSetup.{Setup, setup_at}
use Rattle.rc_sheet.specs.ReadItems.{body_at}
use Rattle.rc_check.specs.declared.grammar.Symbol.TheVariants as symbol
use Rattle.rc_check.specs.declared.grammar.Rule.{Rule}
use Rattle.rc_check.specs.declared.grammar.Rule.TheVariants as rule

-- `(setup LINE+)`
abbrev pub setup_rule : Naming → Rule → Trees → Option Setup
setup_rule naming rule.Setup (cons head lines) = setup_at naming lines
setup_rule naming rule parts = None

unfoldable pub setup_form_at : Naming → Tree → Option Setup
setup_form_at naming (word bytes from to) = None
setup_form_at naming (list parts from to) = rule_at symbol.Setup parts >>= λ rule. setup_rule naming rule parts

-- the sheet of a setup, items and a scoring, with these names
abbrev pub sheet_with : Naming → Setup → SheetItems × (Best × IntExpr) → Sheet
sheet_with naming setup body =
    record {
      players = setup.players;
      teams = setup.teams;
      names = naming.names;
      decks = setup.decks;
      points = setup.points;
      locs = naming.locs;
      nums = naming.nums;
      items = body.0;
      best = body.1.0;
      score = body.1.1;
    }

-- SETUP ITEM+ SCORING
unfoldable pub game_parts : Naming → Tree → Trees → Option Sheet
game_parts naming setup parts = do
  setup ← setup_form_at naming setup
  body ← body_at naming parts
  Some (sheet_with naming setup body)

-- `(game SETUP ITEM+ SCORING)`
abbrev pub game_rule : Naming → Rule → Trees → Option Sheet
game_rule naming rule.Game (cons head (cons setup parts)) = game_parts naming setup parts
game_rule naming rule parts = None

unfoldable pub sheet_at : Naming → Tree → Option Sheet
sheet_at naming (word bytes from to) = None
sheet_at naming (list parts from to) = rule_at symbol.Sheet parts >>= λ rule. game_rule naming rule parts
