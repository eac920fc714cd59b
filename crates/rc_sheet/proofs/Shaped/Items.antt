-- Forms that stand for items and for the scoring have the shape of their place.
use Rattle.std.proofs.Common.{◌≡◌, Bool, true, List, [], ◌∷◌, refl, sym, subst}
use Rattle.std.specs.Prelude.{codes}
use Rattle.rc_base.specs.Tree.{Tree, word, list, Trees, nil, cons}
use Rattle.rc_sheet_spec.specs.Sheet.{Best, highest, lowest, game_class, player_class, team_class, Test, Alt, SheetItem, do_item, stage, choice, SheetItems, no_item, item, Sheet}
use Rattle.rc_sheet_spec.specs.Rows.{◌▸◌, End, Row, Atom}
use Rattle.rc_sheet_spec.specs.Rows.{Some as Full}
use Rattle.rc_sheet_spec.specs.Naming.{self_scope, sheet_naming}
use Rattle.rc_sheet_spec.specs.StandsExpressions.{StandsInt, StandsTest}
use Rattle.rc_sheet_spec.specs.StandsEffects.{StandEffects}
use Rattle.rc_sheet_spec.specs.StandsItems.{StandsItem, StandAlts, StandItems}
use Rattle.rc_sheet_spec.specs.Stands.{StandsBest, StandsScoring}
use Rattle.rc_sheet_spec.specs.WellFormed.{scored, IsInt, IsTest, AreAlts, IsItem, AreItems}
use Rattle.rc_check.specs.Faults.{faults}
use Rattle.rc_sheet.proofs.One.Rows.{behind_word, row_one, row_two, row_words, first_part}
use Rattle.rc_sheet.proofs.One.Items.{within_stages}
use Rattle.rc_sheet.proofs.Shaped.Common.{AllShaped, form_shaped, row_shaped, more_fit, more_fit_three}
use Rattle.rc_sheet.proofs.Shaped.Expressions.{shaped_int, shaped_test}
use Rattle.rc_sheet.proofs.Shaped.Effects.{shaped_effects, shaped_alt}
use Rattle.rc_check.specs.declared.grammar.Symbol.TheVariants as symbol
use Rattle.rc_check.specs.declared.grammar.Rule.TheVariants as rule

abbrev ItemShaped : Tree → Type 0
ItemShaped tree = faults symbol.Item tree ≡ []

-- A sheet whose parts stand for forms.
module _ (sheet : Sheet) where
  shaped_alts : (players teams : Bool) (all : List Alt) (trees : Trees) → StandAlts (sheet_naming sheet) all trees
      → AreAlts sheet (within_stages players teams) all → AllShaped symbol.Alternative trees
  shaped_alts players teams [] nil stands is = tt
  shaped_alts players teams [] (cons tree trees) stands is = absurd stands
  shaped_alts players teams (alt ∷ all) nil stands is = absurd stands
  shaped_alts players teams (alt ∷ all) (cons tree trees) stands is = (
    shaped_alt sheet (within_stages players teams) alt tree stands.0 is.0,
    shaped_alts players teams all trees stands.1 is.1,
  )

  -- `(end BOOL)`
  shaped_end : (players teams : Bool) (t : Test) (tree : Tree)
      → Row (Atom "end" ▸ StandsTest (sheet_naming sheet) [] t ▸ End) tree → IsTest sheet (within_stages players teams) t
      → faults symbol.End tree ≡ []
  shaped_end players teams t tree stands is =
      row_one "end" (StandsTest (sheet_naming sheet) [] t) (λ tree. faults symbol.End tree ≡ []) tree stands
      (λ f g from to x here.
      row_shaped symbol.End rule.End (cons (word (codes "end") f g) (cons x nil)) from to refl refl
      (refl, (shaped_test sheet (within_stages players teams) t x here is, tt)))

  mutual
    -- ITEM
    pub shaped_item : (players teams : Bool) (i : SheetItem) (tree : Tree) → StandsItem (sheet_naming sheet) i tree
        → IsItem sheet (within_stages players teams) i → faults symbol.Item tree ≡ []
    shaped_item players teams (do_item effects) tree stands is =
        behind_word "do" (Full (StandEffects (sheet_naming sheet) [] effects)) ItemShaped tree stands
        (λ f t from to es there.
        form_shaped symbol.Item rule.Do (cons (word (codes "do") f t) es) from to refl (more_fit 1 es there.0) refl
        (refl, shaped_effects sheet (within_stages players teams) effects es there.1 is.1))
    shaped_item players teams (stage number game_class end body) tree stands is = absurd is
    shaped_item players teams (stage number player_class end body) tree stands is =
        row_words "stage" "player"
        (Row (Atom "end" ▸ StandsTest (sheet_naming sheet) [] end ▸ End) ▸ Full (StandItems (sheet_naming sheet) body End))
        ItemShaped tree stands
        (λ f t f' t' from to parts more. first_part (Row (Atom "end" ▸ StandsTest (sheet_naming sheet) [] end ▸ End))
        (Full (StandItems (sheet_naming sheet) body End))
        (λ l. ItemShaped (list (cons (word (codes "stage") f t) (cons (word (codes "player") f' t') l)) from to)) parts more
        (λ e is' here there.
        form_shaped symbol.Item rule.PlayerStage
        (cons (word (codes "stage") f t) (cons (word (codes "player") f' t') (cons e is'))) from to refl
        (more_fit_three is' there.0) refl
        (refl, (refl, (shaped_end true teams end e here is.0, shaped_items true teams body is' there.1 is.2)))))
    shaped_item players teams (stage number team_class end body) tree stands is =
        row_words "stage" "team"
        (Row (Atom "end" ▸ StandsTest (sheet_naming sheet) [] end ▸ End) ▸ Full (StandItems (sheet_naming sheet) body End))
        ItemShaped tree stands
        (λ f t f' t' from to parts more. first_part (Row (Atom "end" ▸ StandsTest (sheet_naming sheet) [] end ▸ End))
        (Full (StandItems (sheet_naming sheet) body End))
        (λ l. ItemShaped (list (cons (word (codes "stage") f t) (cons (word (codes "team") f' t') l)) from to)) parts more
        (λ e is' here there.
        form_shaped symbol.Item rule.TeamStage
        (cons (word (codes "stage") f t) (cons (word (codes "team") f' t') (cons e is'))) from to refl
        (more_fit_three is' there.0) refl
        (refl, (refl, (shaped_end players true end e here is.0, shaped_items players true body is' there.1 is.2)))))
    shaped_item players teams (choice site alts) tree stands is =
        behind_word "choice" (Full (StandAlts (sheet_naming sheet) alts)) ItemShaped tree stands
        (λ f t from to as' there.
        form_shaped symbol.Item rule.Choice (cons (word (codes "choice") f t) as') from to refl (more_fit 1 as' there.0) refl
        (refl, shaped_alts players teams alts as' there.1 is.2))

    pub shaped_items : (players teams : Bool) (all : SheetItems) (trees : Trees) → StandItems (sheet_naming sheet) all End trees
        → AreItems sheet (within_stages players teams) all → AllShaped symbol.Item trees
    shaped_items players teams no_item nil stands is = tt
    shaped_items players teams no_item (cons tree trees) stands is = absurd stands
    shaped_items players teams (item i all) nil stands is = absurd stands
    shaped_items players teams (item i all) (cons tree trees) stands is =
        (shaped_item players teams i tree stands.0 is.0, shaped_items players teams all trees stands.1 is.1)

  -- BEST
  shaped_best : (best : Best) (tree : Tree) → StandsBest best tree → faults symbol.Best tree ≡ []
  shaped_best highest (word bytes from to) stands =
      subst (λ b. faults symbol.Best (word b from to) ≡ []) (sym stands) refl
  shaped_best lowest (word bytes from to) stands = subst (λ b. faults symbol.Best (word b from to) ≡ []) (sym stands) refl
  shaped_best highest (list parts from to) stands = absurd stands
  shaped_best lowest (list parts from to) stands = absurd stands

  -- `(scoring BEST INT)`
  pub shaped_score : (tree : Tree) → StandsScoring sheet tree → IsInt sheet scored sheet.score
      → faults symbol.Scoring tree ≡ []
  shaped_score tree stands is =
      row_two "scoring" (StandsBest sheet.best) (StandsInt (sheet_naming sheet) self_scope sheet.score)
      (λ tree. faults symbol.Scoring tree ≡ []) tree stands
      (λ f t from to b v here there.
      row_shaped symbol.Scoring rule.Scoring (cons (word (codes "scoring") f t) (cons b (cons v nil))) from to refl refl
      (refl, (shaped_best sheet.best b here, ((shaped_int sheet scored sheet.score v there is).0, tt))))
