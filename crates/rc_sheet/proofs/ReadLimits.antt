-- A sheet that is read has no more players, stages and choices than it may have.
use Rattle.std.proofs.Common.{ℕ, ◌≤◌, nat_lt, nat_le, List, [], ◌∷◌, ◌++◌, length, Option, Some, None, is_none, subst, arith, ltb-true}
use Rattle.rc_base.specs.Tree.{Tree, word, list, Trees, nil, cons}
use Rattle.rc_sheet_spec.specs.Sheet.{Class, player_class, team_class, Test, Alt, stage, choice, SheetItems, no_item, Sheet}
use Rattle.rc_sheet_spec.specs.Mentions.{stages_in, sites_in}
use Rattle.rc_base.specs.Limits.{most_players, most_stages, most_sites}
use Rattle.rc_sheet_spec.specs.Naming.{Naming}
use Rattle.rc_check.specs.Faults.{count}
use Rattle.rc_check.specs.declared.grammar.Symbol.TheVariants as symbol
use Rattle.rc_check.specs.declared.grammar.Rule.{Rule}
use Rattle.rc_check.specs.declared.grammar.Rule.TheVariants as rule
use Rattle.rc_sheet.specs.ReadNames.{◌>>=◌, ensure, rule_at}
use Rattle.rc_sheet.specs.ReadEffects.{effects_at, alts_at}
use Rattle.rc_sheet.specs.ReadItems.{Begun, none_begun, with_stage, with_site, stage_of, choice_of, end_at, item_at, item_rule, items_at, score_at, but_last, last_of, body_at}
use Rattle.rc_sheet.specs.ReadSetup.{Lines, no_line, count_at, teams_at, deck_at, points_at, players_line, teams_line, deck_line, points_line, line_rule, line_at, lines_at, setup_of}
use Rattle.rc_sheet.specs.ReadSheet.{setup_rule, setup_form_at, game_parts, game_rule, sheet_at, sheet_with}
use Rattle.rc_sheet.proofs.Means.{Means, nothing, something, means_if, means_so, weaker, mapped, behind, both_mean, ensured, anything}
use Rattle.rc_sheet.proofs.CountedItems.{CountedItems, items_count}
use Rattle.rc_sheet.proofs.PlayersAndTeams.{IsBetween, count_counts}

-- STAGES AND CHOICES

-- no more have begun than may
record HasRoom (begun : Begun) : Type 0 where
  few_stages : begun.stages ≤ most_stages
  few_sites : begun.sites ≤ most_sites

stage_fits : (begun : Begun) (class : Class) (end : Option Test) (items : Option (SheetItems × Begun)) → HasRoom begun
    → (HasRoom (with_stage begun) → Means items (λ p. HasRoom p.1))
    → Means (stage_of begun class end items) (λ p. HasRoom p.1)
stage_fits begun class end items room inner =
    behind (ensure (nat_lt begun.stages most_stages)) _ (ensured (nat_lt begun.stages most_stages))
    (λ u less.
    let more = ltb-true begun.stages most_stages less in
    mapped _ (λ p. (stage begun.stages class p.0 p.1.0, p.1.1))
    (both_mean end items (anything end)
    (inner (record { few_stages = omega (arith, more); few_sites = room.few_sites })))
    (λ p both. both.1))

choice_fits : (begun : Begun) (alts : Option (List Alt)) → HasRoom begun → Means (choice_of begun alts) (λ p. HasRoom p.1)
choice_fits begun alts room =
    behind (ensure (nat_lt begun.sites most_sites)) _ (ensured (nat_lt begun.sites most_sites))
    (λ u less.
    let more = ltb-true begun.sites most_sites less in
    mapped alts (λ alts. (choice begun.sites alts, with_site begun)) (anything alts)
    (λ given all. record { few_stages = room.few_stages; few_sites = omega (arith, more) }))

mutual
  -- ITEM
  item_fits : (naming : Naming) (begun : Begun) (tree : Tree) → HasRoom begun
      → Means (item_at naming begun tree) (λ p. HasRoom p.1)
  item_fits naming begun (word bytes from to) room = nothing
  item_fits naming begun (list parts from to) room =
      behind (rule_at symbol.Item parts) _ (anything (rule_at symbol.Item parts))
      (λ rule told. item_rule_fits naming begun rule parts room)

  -- by its rule
  item_rule_fits : (naming : Naming) (begun : Begun) (rule : Rule) (parts : Trees) → HasRoom begun
      → Means (item_rule naming begun rule parts) (λ p. HasRoom p.1)
  item_rule_fits naming begun rule.Do (cons head effects) room =
      mapped (effects_at naming [] effects) _ (anything (effects_at naming [] effects)) (λ es all. room)
  item_rule_fits naming begun rule.PlayerStage (cons head (cons class (cons end items))) room =
      stage_fits begun player_class (end_at naming end) _ room (items_fit naming (with_stage begun) items)
  item_rule_fits naming begun rule.TeamStage (cons head (cons class (cons end items))) room =
      stage_fits begun team_class (end_at naming end) _ room (items_fit naming (with_stage begun) items)
  item_rule_fits naming begun rule.Choice (cons head alts) room = choice_fits begun (alts_at naming alts) room
  item_rule_fits naming begun rule parts room = nothing

  -- items, one after the other
  items_fit : (naming : Naming) (begun : Begun) (trees : Trees) → HasRoom begun
      → Means (items_at naming begun trees) (λ p. HasRoom p.1)
  items_fit naming begun nil room = something (no_item, begun) room
  items_fit naming begun (cons tree trees) room =
      behind (item_at naming begun tree) _ (item_fits naming begun tree room)
      (λ first room'. mapped (items_at naming first.1 trees) _ (items_fit naming first.1 trees room') (λ later room''. room''))

-- there are few of both
record AreFew (items : SheetItems) : Type 0 where
  stages : length (stages_in items) ≤ most_stages
  sites : length (sites_in items) ≤ most_sites

-- the items of a sheet
items_few : (naming : Naming) (trees : Trees) → Means (items_at naming none_begun trees) (λ p. AreFew p.0)
items_few naming trees =
    means_if (items_at naming none_begun trees)
    (λ p is.
    let room = means_so (items_at naming none_begun trees) p
    (items_fit naming none_begun trees (record { few_stages = omega arith; few_sites = omega arith })) is in
    let counted = means_so (items_at naming none_begun trees) p (items_count naming none_begun trees) is in
    by p.0 p.1 room counted)
  where
    by : (items : SheetItems) (after : Begun) → HasRoom after → CountedItems none_begun (items, after) → AreFew items
    by items after room counted =
        let a = room.few_stages in
        let b = room.few_sites in
        let c = counted.stages_between in
        let d = counted.sites_between in
        record { stages = omega (arith, a, c); sites = omega (arith, b, d) }

body_few : (naming : Naming) (trees : Trees) → Means (body_at naming trees) (λ p. AreFew p.0)
body_few naming trees =
    behind (ensure (nat_le 2 (count trees))) _ (ensured (nat_le 2 (count trees)))
    (λ u two. weaker _
    (both_mean _ _
    (mapped (items_at naming none_begun (but_last trees)) (λ p. p.0) (items_few naming (but_last trees)) (λ p few. few))
    (anything (last_of trees >>= score_at naming)))
    (λ p both. both.0))

-- PLAYERS

-- there are one to eight, where it is said
abbrev FewPlayers : Option ℕ → Type 0
FewPlayers None = Unit {0}
FewPlayers (Some n) = IsBetween 1 most_players n

-- one more line, by its rule
line_rule_few : (naming : Naming) (before : Lines) (rule : Rule) (parts : Trees) → FewPlayers before.players
    → Means (line_rule naming before rule parts) (λ next. FewPlayers next.players)
unfolding players_line teams_line deck_line points_line
line_rule_few naming before rule.CreatePlayers (cons create (cons players (cons number nil))) few =
    behind (ensure (is_none before.players)) _ (anything (ensure (is_none before.players)))
    (λ u v. behind (count_at 1 most_players number) _ (count_counts 1 most_players number)
    (λ n is. something (record before { players = Some n }) is.1))
line_rule_few naming before rule.CreateTeams (cons create (cons teams parts)) few =
    behind (ensure (is_none before.teams)) _ (anything (ensure (is_none before.teams)))
    (λ u v. behind (teams_at parts) _ (anything (teams_at parts))
    (λ all w. something (record before { teams = Some all }) few))
line_rule_few naming before rule.CreateDeck (cons create (cons deck (cons loc (cons tree nil)))) few =
    behind (deck_at naming loc tree) _ (anything (deck_at naming loc tree))
    (λ line u. something (record before { decks = before.decks ++ line ∷ [] }) few)
line_rule_few naming before rule.PutPoints (cons put (cons points (cons map (cons tree nil)))) few =
    behind (points_at naming (length before.points) map tree) _ (anything (points_at naming (length before.points) map tree))
    (λ entries u. something (record before { points = before.points ++ entries ∷ [] }) few)
line_rule_few naming before rule parts few = nothing

line_few : (naming : Naming) (before : Lines) (tree : Tree) → FewPlayers before.players
    → Means (line_at naming before tree) (λ next. FewPlayers next.players)
unfolding line_at
line_few naming before (word bytes from to) few = nothing
line_few naming before (list parts from to) few =
    behind (rule_at symbol.Line parts) (λ rule. line_rule naming before rule parts) (anything (rule_at symbol.Line parts))
    (λ rule u. line_rule_few naming before rule parts few)

lines_few : (naming : Naming) (before : Lines) (trees : Trees) → FewPlayers before.players
    → Means (lines_at naming before trees) (λ next. FewPlayers next.players)
lines_few naming before nil few = something before few
lines_few naming before (cons tree trees) few =
    behind (line_at naming before tree) (λ next. lines_at naming next trees) (line_few naming before tree few)
    (λ next more. lines_few naming next trees more)

-- what the lines say together
said_few : (lines : Lines) → FewPlayers lines.players → Means (setup_of lines) (λ setup. IsBetween 1 most_players setup.players)
said_few lines few =
    behind lines.players _ (means_if lines.players (λ n is. subst FewPlayers is few))
    (λ n is. something (record { players = n; teams = lines.teams; decks = lines.decks; points = lines.points }) is)

setup_rule_few : (naming : Naming) (rule : Rule) (parts : Trees)
    → Means (setup_rule naming rule parts) (λ setup. IsBetween 1 most_players setup.players)
setup_rule_few naming rule.Setup (cons head lines) =
    behind (lines_at naming no_line lines) setup_of (lines_few naming no_line lines tt) (λ last few. said_few last few)
setup_rule_few naming rule parts = nothing

setup_few : (naming : Naming) (tree : Tree)
    → Means (setup_form_at naming tree) (λ setup. IsBetween 1 most_players setup.players)
unfolding setup_form_at
setup_few naming (word bytes from to) = nothing
setup_few naming (list parts from to) =
    behind (rule_at symbol.Setup parts) (λ rule. setup_rule naming rule parts) (anything (rule_at symbol.Setup parts))
    (λ rule u. setup_rule_few naming rule parts)

-- A WHOLE SHEET

-- the sheet has few players, stages and choices
pub record HasFew (sheet : Sheet) : Type 0 where
  pub some_players : 1 ≤ sheet.players
  pub players : sheet.players ≤ most_players
  pub stages : length (stages_in sheet.items) ≤ most_stages
  pub sites : length (sites_in sheet.items) ≤ most_sites

game_rule_few : (naming : Naming) (rule : Rule) (parts : Trees) → Means (game_rule naming rule parts) HasFew
unfolding game_parts
game_rule_few naming rule.Game (cons head (cons setup parts)) =
    behind (setup_form_at naming setup) _ (setup_few naming setup)
    (λ said few. behind (body_at naming parts) _ (body_few naming parts)
    (λ body few'. something (sheet_with naming said body)
    (record { some_players = few.no_less; players = few.no_more; stages = few'.stages; sites = few'.sites })))
game_rule_few naming rule parts = nothing

pub sheet_few : (naming : Naming) (tree : Tree) → Means (sheet_at naming tree) HasFew
unfolding sheet_at
sheet_few naming (word bytes from to) = nothing
sheet_few naming (list parts from to) =
    behind (rule_at symbol.Sheet parts) (λ rule. game_rule naming rule parts) (anything (rule_at symbol.Sheet parts))
    (λ rule u. game_rule_few naming rule parts)
