-- Items and the scoring that stand for a well formed sheet's have no fault by themselves.
use Rattle.std.proofs.Common.{◌≡◌, ℕ, suc, ◌+◌, Bool, true, false, not, List, [], ◌∷◌, ◌++◌, Some, option_map, refl, sym, subst, ap, arith, eq-eqb, ne_eqb}
use Rattle.std.specs.Prelude.{codes}
use Rattle.rc_base.specs.Tree.{Tree, word, list, Trees, nil, cons}
use Rattle.rc_sheet_spec.specs.Sheet.{game_class, player_class, team_class, Test, Best, highest, lowest, Alt, SheetItem, do_item, stage, choice, SheetItems, no_item, item, Sheet}
use Rattle.rc_sheet_spec.specs.Rows.{◌▸◌, End, Row, Atom}
use Rattle.rc_sheet_spec.specs.Rows.{Some as Full}
use Rattle.rc_sheet_spec.specs.Naming.{self_scope, sheet_naming}
use Rattle.rc_sheet_spec.specs.StandsExpressions.{StandsInt, StandsTest}
use Rattle.rc_sheet_spec.specs.StandsEffects.{StandEffects}
use Rattle.rc_sheet_spec.specs.StandsItems.{StandAlts, StandsItem, StandItems}
use Rattle.rc_sheet_spec.specs.Stands.{StandsBest, StandsScoring}
use Rattle.rc_sheet_spec.specs.WellFormed.{Around, outside, scored, IsInt, IsTest, AreAlts, IsItem, AreItems}
use Rattle.rc_check.specs.Faults.{behind_front, count}
use Rattle.rc_check.specs.declared.grammar.Symbol.TheVariants as symbol
use Rattle.rc_check.specs.declared.grammar.Rule.TheVariants as rule
use Rattle.rc_check.specs.declared.role.Role.TheVariants.{No as no_role}
use Rattle.rc_check.specs.SecondParts.{Part, parts_at, parts_in, standing_in, standing_alone}
use Rattle.rc_sheet.proofs.GoodParts.{Each}
use Rattle.rc_sheet.proofs.One.Rows.{behind_word, row_one, row_two, row_words, first_part}
use Rattle.rc_sheet.proofs.One.Names.{none_apart, one_apart}
use Rattle.rc_sheet.proofs.Sound.Parts.{standing, all_join, AllSound, Sound, sound_alone, plain_word, sound_list, easy_sound, rest_sound, AreGiven}
use Rattle.rc_sheet.proofs.Sound.Names.{fixed}
use Rattle.rc_sheet.proofs.Sound.Rows.{then}
use Rattle.rc_sheet.proofs.Sound.Expressions.{int_sound, test_sound}
use Rattle.rc_sheet.proofs.Sound.Effects.{effects_sound, do_sound, alt_sound}
use Rattle.rc_sheet.proofs.One.Items.{within_stages as within}

-- behind the setup stand items, and the scoring last
pub stands_last : (whole : Trees) (k : ℕ) → count whole ≡ suc (suc k) + 1
    → standing_in standing_alone rule.Game whole (suc (suc k)) ≡ Some (standing symbol.Scoring outside no_role whole [])
stands_last whole k total =
    ap (λ last. option_map (λ q. standing q outside no_role whole []) (behind_front rule.Game last))
    (eq-eqb (suc (suc k) + 1) (count whole) (sym total))

pub stands_item : (whole : Trees) (k more : ℕ) → count whole ≡ suc (suc k) + suc (suc more)
    → standing_in standing_alone rule.Game whole (suc (suc k)) ≡ Some (standing symbol.Item outside no_role whole [])
stands_item whole k more total =
    ap (λ last. option_map (λ q. standing q outside no_role whole []) (behind_front rule.Game last))
    (ne_eqb (suc (suc k) + 1) (count whole) (λ same. omega (arith, total, same)))

pub one_more : (k : ℕ) → suc (suc (suc k)) ≡ suc (suc k) + 1
one_more k = omega arith

-- A sheet, and all parts of a form, which give what the sheet's setup gives.
module _ (sheet : Sheet) (all : List Part) (given : AreGiven sheet all) where
  alts_sound : (players teams : Bool) (alts : List Alt) (trees : Trees) → StandAlts (sheet_naming sheet) alts trees
      → AreAlts sheet (within players teams) alts → Each (Sound sheet all symbol.Alternative (within players teams)) trees
  alts_sound players teams [] nil stands are = tt
  alts_sound players teams [] (cons tree trees) stands are = absurd stands
  alts_sound players teams (alt ∷ alts) nil stands are = absurd stands
  alts_sound players teams (alt ∷ alts) (cons tree trees) stands are = (
    alt_sound sheet all given (within players teams) alt tree none_apart stands.0 are.0,
    alts_sound players teams alts trees stands.1 are.1,
  )

  -- `(end BOOL)`
  end_sound : (players teams : Bool) (t : Test) (tree : Tree) → Row (Atom "end" ▸ StandsTest (sheet_naming sheet) [] t ▸ End) tree
      → IsTest sheet (within players teams) t → Sound sheet all symbol.End (within players teams) tree
  end_sound players teams t tree stands is =
      row_one "end" (StandsTest (sheet_naming sheet) [] t) (Sound sheet all symbol.End (within players teams)) tree stands
      (λ f g from to x here. sound_list sheet all symbol.End rule.End (within players teams)
      (cons (word (codes "end") f g) (cons x nil)) from to refl
      (easy_sound sheet all rule.End refl (within players teams) _)
      (λ p r b a. (
        fixed sheet all _ _ _ _ _ _,
        then sheet all given symbol.Test (within players teams) _ _ x _
            (test_sound sheet all given (within players teams) t x none_apart here is) tt,
      )))

  -- CHOICE
  choice_sound : (players teams : Bool) (f t from to : ℕ) (parts : Trees) → players ≡ true
      → Each (Sound sheet all symbol.Alternative (within players teams)) parts
      → Sound sheet all symbol.Item (within players teams) (list (cons (word (codes "choice") f t) parts) from to)
  choice_sound players teams f t from to parts is each =
      sound_list sheet all symbol.Item rule.Choice (within players teams) (cons (word (codes "choice") f t) parts) from to refl
      (λ p r b a from plain. record { once = refl; known = ap not is; kind_fits = plain.other; shallow = refl; said = tt })
      (λ p r b a. (
        fixed sheet all _ _ _ _ _ _,
        rest_sound sheet all suc (λ k. omega arith) (standing p (within players teams) r b a) rule.Choice
            (cons (word (codes "choice") f t) parts) symbol.Alternative (within players teams) (a ++ []) (λ k. refl) 0 parts each,
      ))

  mutual
    -- ITEM
    pub item_sound : (players teams : Bool) (i : SheetItem) (tree : Tree) → StandsItem (sheet_naming sheet) i tree
        → IsItem sheet (within players teams) i → Sound sheet all symbol.Item (within players teams) tree
    item_sound players teams (do_item effects) tree stands is =
        behind_word "do" (Full (StandEffects (sheet_naming sheet) [] effects)) (Sound sheet all symbol.Item (within players teams))
        tree
        stands
        (λ f t from to es there. do_sound sheet all given symbol.Item (within players teams) f t from to es refl
        (effects_sound sheet all given (within players teams) effects es none_apart there.1 is.1))
    item_sound players teams (stage number game_class end body) tree stands is = absurd is
    item_sound players teams (stage number player_class end body) tree stands is =
        row_words "stage" "player"
        (Row (Atom "end" ▸ StandsTest (sheet_naming sheet) [] end ▸ End) ▸ Full (StandItems (sheet_naming sheet) body End))
        (Sound sheet all symbol.Item (within players teams)) tree stands
        (λ f t f' t' from to parts more. first_part (Row (Atom "end" ▸ StandsTest (sheet_naming sheet) [] end ▸ End))
        (Full (StandItems (sheet_naming sheet) body End))
        (λ l. Sound sheet all symbol.Item (within players teams)
        (list (cons (word (codes "stage") f t) (cons (word (codes "player") f' t') l)) from to)) parts more
        (λ e is' here there.
        let whole = cons (word (codes "stage") f t) (cons (word (codes "player") f' t') (cons e is')) in
        let items = items_sound true teams body is' there.1 is.2 in
        let ends = end_sound true teams end e here is.0 in
        sound_list sheet all symbol.Item rule.PlayerStage (within players teams) whole from to refl
        (easy_sound sheet all rule.PlayerStage refl (within players teams) _)
        (λ p r b a. (
          fixed sheet all _ _ _ _ _ _,
          (
            fixed sheet all _ _ _ _ _ _,
            then sheet all given symbol.End (within true teams) _ _ e _ ends
                (rest_sound sheet all (λ k. suc (suc (suc k))) (λ k. omega arith) (standing p (within players teams) r b a)
                rule.PlayerStage whole
                symbol.Item (within true teams) (a ++ []) (λ k. refl) 0 is' items),
          ),
        ))))
    item_sound players teams (stage number team_class end body) tree stands is =
        row_words "stage" "team"
        (Row (Atom "end" ▸ StandsTest (sheet_naming sheet) [] end ▸ End) ▸ Full (StandItems (sheet_naming sheet) body End))
        (Sound sheet all symbol.Item (within players teams)) tree stands
        (λ f t f' t' from to parts more. first_part (Row (Atom "end" ▸ StandsTest (sheet_naming sheet) [] end ▸ End))
        (Full (StandItems (sheet_naming sheet) body End))
        (λ l. Sound sheet all symbol.Item (within players teams)
        (list (cons (word (codes "stage") f t) (cons (word (codes "team") f' t') l)) from to)) parts more
        (λ e is' here there.
        let whole = cons (word (codes "stage") f t) (cons (word (codes "team") f' t') (cons e is')) in
        let items = items_sound players true body is' there.1 is.2 in
        let ends = end_sound players true end e here is.0 in
        sound_list sheet all symbol.Item rule.TeamStage (within players teams) whole from to refl
        (easy_sound sheet all rule.TeamStage refl (within players teams) _)
        (λ p r b a. (
          fixed sheet all _ _ _ _ _ _,
          (
            fixed sheet all _ _ _ _ _ _,
            then sheet all given symbol.End (within players true) _ _ e _ ends
                (rest_sound sheet all (λ k. suc (suc (suc k))) (λ k. omega arith) (standing p (within players teams) r b a)
                rule.TeamStage whole
                symbol.Item (within players true) (a ++ []) (λ k. refl) 0 is' items),
          ),
        ))))
    item_sound players teams (choice site alts) tree stands is =
        behind_word "choice" (Full (StandAlts (sheet_naming sheet) alts)) (Sound sheet all symbol.Item (within players teams)) tree
        stands
        (λ f t from to as' there. choice_sound players teams f t from to as' is.0
        (alts_sound players teams alts as' there.1 is.2))

    items_sound : (players teams : Bool) (items : SheetItems) (trees : Trees) → StandItems (sheet_naming sheet) items End trees
        → AreItems sheet (within players teams) items → Each (Sound sheet all symbol.Item (within players teams)) trees
    items_sound players teams no_item nil stands are = tt
    items_sound players teams no_item (cons tree trees) stands are = absurd stands
    items_sound players teams (item i items) nil stands are = absurd stands
    items_sound players teams (item i items) (cons tree trees) stands are =
        (item_sound players teams i tree stands.0 are.0, items_sound players teams items trees stands.1 are.1)

  -- SCORING
  best_sound : (around : Around) (best : Best) (tree : Tree) → StandsBest best tree → Sound sheet all symbol.Best around tree
  best_sound around highest (word bytes from to) stands = plain_word sheet all symbol.Best around bytes from to refl
  best_sound around highest (list parts from to) stands = absurd stands
  best_sound around lowest (word bytes from to) stands = plain_word sheet all symbol.Best around bytes from to refl
  best_sound around lowest (list parts from to) stands = absurd stands

  scoring_sound : (tree : Tree) → StandsScoring sheet tree → IsInt sheet scored sheet.score
      → Sound sheet all symbol.Scoring outside tree
  scoring_sound tree stands is =
      row_two "scoring" (StandsBest sheet.best) (StandsInt (sheet_naming sheet) self_scope sheet.score)
      (Sound sheet all symbol.Scoring outside) tree stands
      (λ f t from to b v here there. sound_list sheet all symbol.Scoring rule.Scoring outside
      (cons (word (codes "scoring") f t) (cons b (cons v nil))) from to refl
      (easy_sound sheet all rule.Scoring refl outside _)
      (λ p r b' a. (
        fixed sheet all _ _ _ _ _ _,
        then sheet all given symbol.Best scored _ _ b _ (best_sound scored sheet.best b here)
            (then sheet all given symbol.Integer scored _ _ v _
            (int_sound sheet all given scored sheet.score v (one_apart _) there is).0 tt),
      )))

  -- what follows the setup
  body_sound : (whole : Trees) (k : ℕ) (items : SheetItems) (trees : Trees)
      → StandItems (sheet_naming sheet) items (StandsScoring sheet ▸ End) trees
      → count whole ≡ suc (suc k) + count trees → AreItems sheet outside items → IsInt sheet scored sheet.score
      → AllSound sheet all (parts_in standing_alone rule.Game whole (suc (suc k)) trees)
  body_sound whole k no_item nil stands total are score = absurd stands
  body_sound whole k no_item (cons tree nil) stands total are score =
      subst (λ o. AllSound sheet all (parts_at o tree ++ [])) (sym (stands_last whole k total))
      (all_join sheet all _ [] (sound_alone sheet all symbol.Scoring outside tree whole [] (scoring_sound tree stands.0 score)) tt)
  body_sound whole k no_item (cons tree (cons next trees)) stands total are score = absurd stands.1
  body_sound whole k (item i items) nil stands total are score = absurd stands
  body_sound whole k (item i items) (cons tree nil) stands total are score = absurd (none_left items stands.1)
    where
      none_left : (items : SheetItems) → StandItems (sheet_naming sheet) items (StandsScoring sheet ▸ End) nil → ⊥
      none_left no_item stands = stands
      none_left (item i items) stands = stands
  body_sound whole k (item i items) (cons tree (cons next trees)) stands total are score =
      subst (λ o. AllSound sheet all
      (parts_at o tree ++ parts_in standing_alone rule.Game whole (suc (suc k) + 1) (cons next trees)))
      (sym (stands_item whole k (count trees) total))
      (all_join sheet all _ _
      (sound_alone sheet all symbol.Item outside tree whole [] (item_sound false false i tree stands.0 are.0))
      (subst (λ j. AllSound sheet all (parts_in standing_alone rule.Game whole j (cons next trees))) (one_more k)
      (body_sound whole (suc k) items (cons next trees) stands.1 (omega (arith, total)) are.1 score)))

  -- the body of a sheet
  pub sheet_body_sound : (whole trees : Trees) → StandItems (sheet_naming sheet) sheet.items (StandsScoring sheet ▸ End) trees
      → count whole ≡ suc (suc (count trees)) → AreItems sheet outside sheet.items → IsInt sheet scored sheet.score
      → AllSound sheet all (parts_in standing_alone rule.Game whole 2 trees)
  sheet_body_sound whole trees stands total are score =
      body_sound whole 0 sheet.items trees stands (omega (arith, total)) are score
