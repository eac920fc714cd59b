-- A form whose parts are fine is read whole where its setup is: the items and the score of the sheet are well formed.
use Rattle.std.proofs.Common.{◌≡◌, ◌≤◌, ℕ, pos, [], length, sym, subst, ap}
use Rattle.std.specs.Prelude.{unwrap_or}
use Rattle.std.specs.List.{All}
use Rattle.rc_base.specs.Tree.{Tree, list, Trees, cons}
use Rattle.rc_sheet_spec.specs.Sheet.{SheetItems, no_item, Best, highest, IntExpr, literal, Sheet}
use Rattle.rc_sheet_spec.specs.Lists.{item_list}
use Rattle.rc_base.specs.Limits.{most_stages, most_sites}
use Rattle.rc_sheet_spec.specs.Naming.{Naming}
use Rattle.rc_sheet_spec.specs.WellFormed.{outside, scored, IsInt, AreItems}
use Rattle.rc_check.specs.SecondParts.{standing_alone, parts_of}
use Rattle.rc_check.specs.SecondFaults.{stage_count, choice_count}
use Rattle.rc_check.specs.Faults.{faults, count}
use Rattle.rc_check.specs.declared.grammar.Symbol.TheVariants as symbol
use Rattle.rc_check.specs.declared.grammar.Rule.TheVariants as rule
use Rattle.rc_sheet.specs.ReadNames.{◌>>=◌, sized}
use Rattle.rc_sheet.specs.ReadItems.{body_at}
use Rattle.rc_sheet.specs.ReadSetup.{Setup}
use Rattle.rc_sheet.specs.ReadSheet.{setup_form_at, game_parts, game_rule, sheet_at, sheet_with}
use Rattle.rc_sheet.proofs.Fine.Common.{Given, IsFine}
use Rattle.rc_sheet.proofs.Finds.{Finds, finds, finds_if, found_as, follows}
use Rattle.rc_sheet.proofs.GoodParts.{IsGood, sized_finds}
use Rattle.rc_sheet.proofs.GoodForms.{plain_part}
use Rattle.rc_sheet.proofs.Fine.Names.{Gives}
use Rattle.rc_sheet.proofs.Fine.Body.{IsGame, game_is_fine, BodyAt, game_body_finds}

-- what is read where nothing is
no_body : SheetItems × (Best × IntExpr)
no_body = (no_item, (highest, literal (pos 0)))

-- a sheet's items and its score are well formed
pub record HasFineBody (sheet : Sheet) : Type 0 where
  pub items : AreItems sheet outside sheet.items
  pub some_item : 1 ≤ length (item_list sheet.items)
  pub score : IsInt sheet scored sheet.score

module _ (naming : Naming) (given : Given) where
  -- a sheet with this setup gives what its form gives, whatever its items and its score are
  abbrev pub IsSetUp : Setup → Type 0
  IsSetUp setup = (body : SheetItems × (Best × IntExpr)) → Gives (sheet_with naming setup body) given

  -- the setup of a form is read, as one of such sheets
  abbrev pub SetupFinds : Tree → Type 0
  SetupFinds tree =
      (head setup : Tree) (rest : Trees) (from to : ℕ) → tree ≡ list (cons head (cons setup rest)) from to
      → IsGood given naming (plain_part standing_alone symbol.Setup (cons head (cons setup rest))) setup
      → Finds (setup_form_at naming setup) IsSetUp

  -- the body that is read makes the sheet
  body_of_game : (tree : Tree) (game : IsGame given naming tree) (setup : Setup) → IsSetUp setup
      → Finds (body_at naming game.rest) (λ body. HasFineBody (sheet_with naming setup body))
  body_of_game tree game setup gives =
      let guess = unwrap_or (body_at naming game.rest) no_body in
      let found = found_as (body_at naming game.rest)
      (game_body_finds (sheet_with naming setup guess) given (gives guess) tree game) in
      let same : guess ≡ found.0 = ap (λ o. unwrap_or o no_body) found.1 in
      let is = subst (λ b. BodyAt (sheet_with naming setup b) given (gives b) found.0) same found.2 in
      finds_if (body_at naming game.rest) found.0 found.1
      (record {
        items = is.0;
        some_item = is.1;
        score = is.2;
      })

  -- the parts of its form
  game_parts_find : (tree : Tree) (game : IsGame given naming tree) → SetupFinds tree
      → Finds (game_parts naming game.setup game.rest) HasFineBody
  unfolding game_parts
  game_parts_find tree game set_up =
      follows (setup_form_at naming game.setup) _
      (set_up game.head game.setup game.rest game.from game.to game.is game.good.good.1.0)
      (λ setup is. follows (body_at naming game.rest) _ (body_of_game tree game setup is)
      (λ body fine. finds (sheet_with naming setup body) fine))

  -- A form without a fault of shape whose parts are fine is read, where its setup is and where it has no more stages and choices
  -- than a sheet may have.
  pub sheet_finds : (tree : Tree) → faults symbol.Sheet tree ≡ []
      → All (IsFine given naming) (parts_of tree) → stage_count (parts_of tree) ≤ most_stages
      → choice_count (parts_of tree) ≤ most_sites → SetupFinds tree → Finds (sheet_at naming tree) HasFineBody
  unfolding sheet_at
  sheet_finds tree shaped fine stages sites set_up =
      let game = game_is_fine given naming tree shaped fine stages sites in
      let parts = cons game.head (cons game.setup game.rest) in
      subst (λ tree. Finds (sheet_at naming tree) HasFineBody) (sym game.is)
      (subst (λ o. Finds (sized (count parts) o >>= λ rule. game_rule naming rule parts) HasFineBody) (sym game.told)
      (sized_finds (count parts) rule.Game (λ rule. game_rule naming rule parts) game.good.fit
      (game_parts_find tree game set_up)))
