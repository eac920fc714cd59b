-- The form of a sheet has as many stages and choices as the sheet.
use Rattle.std.proofs.Common.{◌≡◌, ℕ, suc, ◌+◌, Bool, true, false, ◌&&◌, List, [], ◌++◌, length, flat_map, Some, refl, sym, ap, ap₂, ◌∙◌, arith}
use Rattle.std.specs.Prelude.{codes}
use Rattle.std.specs.List.{list_all}
use Rattle.std.proofs.lemmas.List.{length-append}
use Rattle.std.proofs.lemmas.Grind.{flat_map-append}
use Rattle.rc_base.specs.Tree.{Tree, word, list, Trees, nil, cons}
use Rattle.rc_sheet_spec.specs.Sheet.{game_class, player_class, team_class, SheetItem, do_item, stage, choice, SheetItems, no_item, item, Sheet}
use Rattle.rc_sheet_spec.specs.Mentions.{stages_in_item, stages_in, sites_in_item, sites_in}
use Rattle.rc_sheet_spec.specs.Rows.{◌▸◌, End, Row, Atom}
use Rattle.rc_sheet_spec.specs.Rows.{Some as Full}
use Rattle.rc_sheet_spec.specs.Naming.{Naming, sheet_naming}
use Rattle.rc_sheet_spec.specs.StandsExpressions.{StandsTest}
use Rattle.rc_sheet_spec.specs.StandsEffects.{StandEffects}
use Rattle.rc_sheet_spec.specs.StandsItems.{StandAlts, StandsItem, StandItems}
use Rattle.rc_sheet_spec.specs.Stands.{StandsScoring, Stands}
use Rattle.rc_sheet_spec.specs.WellFormed.{Around, outside, in_stage}
use Rattle.rc_check.specs.Grammar.{forms_of}
use Rattle.rc_check.specs.Faults.{count}
use Rattle.rc_check.specs.declared.grammar.Symbol.{Symbol}
use Rattle.rc_check.specs.declared.grammar.Symbol.TheVariants as symbol
use Rattle.rc_check.specs.declared.grammar.Rule.{Rule}
use Rattle.rc_check.specs.declared.grammar.Rule.TheVariants as rule
use Rattle.rc_check.specs.declared.role.Role.{Role}
use Rattle.rc_check.specs.declared.role.Role.TheVariants.{No as no_role}
use Rattle.rc_check.specs.SecondParts.{Standing, Part, atom, form, parts_at, parts_in, parts_of, standing_in, standing_alone}
use Rattle.rc_check.specs.SecondNames.{choices_in}
use Rattle.rc_check.specs.SecondNames.{stages_in as stages_of}
use Rattle.rc_sheet.proofs.Lands.{never, never_roles}
use Rattle.rc_sheet.proofs.One.Rows.{behind_word, row_words, first_part}
use Rattle.rc_sheet.proofs.Silent.{lies_in, tree_silent}
use Rattle.rc_sheet.proofs.Sound.Counts.{whole_form}
use Rattle.rc_sheet.proofs.Sound.Items.{stands_last, stands_item, one_more}
use Rattle.rc_sheet.proofs.Sound.Parts.{standing}

-- the places that are no items, and the forms that are none
abbrev no_items : Symbol → Bool
no_items symbol.Sheet = false
no_items symbol.Item = false
no_items p = true

abbrev is_no_item : Rule → Bool
is_no_item rule.Game = false
is_no_item rule.PlayerStage = false
is_no_item rule.TeamStage = false
is_no_item rule.Choice = false
is_no_item r = true

no_items_below : (p : Symbol) → no_items p ≡ true → list_all (λ r. is_no_item r && lies_in no_items r) (forms_of p) ≡ true
no_items_below symbol.Sheet inside = absurd cc
no_items_below symbol.Item inside = absurd cc
no_items_below p inside = refl

-- how many there are among items, where a stage counts for so many, and a choice
abbrev mutual
  pub counted_item : ℕ → ℕ → SheetItem → ℕ
  counted_item s c (do_item effects) = 0
  counted_item s c (stage number class end body) = s + counted s c body
  counted_item s c (choice site alts) = c

  pub counted : ℕ → ℕ → SheetItems → ℕ
  counted s c no_item = 0
  counted s c (item i items) = counted_item s c i + counted s c items

mutual
  stages_counted_item : (i : SheetItem) → counted_item 1 0 i ≡ length (stages_in_item i)
  stages_counted_item (do_item effects) = refl
  stages_counted_item (stage number class end body) = let later = stages_counted body in omega (arith, later)
  stages_counted_item (choice site alts) = refl

  stages_counted : (items : SheetItems) → counted 1 0 items ≡ length (stages_in items)
  stages_counted no_item = refl
  stages_counted (item i items) =
      ap₂ (λ m n. m + n) (stages_counted_item i) (stages_counted items)
      ∙ sym (length-append (stages_in_item i) (stages_in items))

mutual
  sites_counted_item : (i : SheetItem) → counted_item 0 1 i ≡ length (sites_in_item i)
  sites_counted_item (do_item effects) = refl
  sites_counted_item (stage number class end body) = let later = sites_counted body in omega (arith, later)
  sites_counted_item (choice site alts) = refl

  sites_counted : (items : SheetItems) → counted 0 1 items ≡ length (sites_in items)
  sites_counted no_item = refl
  sites_counted (item i items) =
      ap₂ (λ m n. m + n) (sites_counted_item i) (sites_counted items)
      ∙ sym (length-append (sites_in_item i) (sites_in items))

no_more : (n c : ℕ) → n ≡ c → n + 0 ≡ c
no_more n c is = omega (arith, is)

-- What items alone give.
module _
    (f : Part → List ℕ)
    (s c : ℕ)
    (atoms : (at : Standing) (bytes : List ℕ) (from : ℕ) → f (atom at bytes from) ≡ [])
    (forms : (at : Standing) (r : Rule) (parts : Trees) (from : ℕ) → is_no_item r ≡ true → f (form at r parts from) ≡ [])
    (game : (at : Standing) (parts : Trees) (from : ℕ) → f (form at rule.Game parts from) ≡ [])
    (players : (at : Standing) (parts : Trees) (from : ℕ) → length (f (form at rule.PlayerStage parts from)) ≡ s)
    (teams : (at : Standing) (parts : Trees) (from : ℕ) → length (f (form at rule.TeamStage parts from)) ≡ s)
    (choices : (at : Standing) (parts : Trees) (from : ℕ) → length (f (form at rule.Choice parts from)) ≡ c)
  where
    silent : (at : Standing) (tree : Tree) → no_items at.place ≡ true → flat_map f (parts_at (Some at) tree) ≡ []
    silent at tree inside =
        tree_silent f no_items is_no_item never no_items_below refl (never_roles is_no_item)
        (λ at bytes from quiet. atoms at bytes from) forms at tree inside refl

    -- parts of one place that is no item's
    rest_silent : (up : ℕ → ℕ) → ((k : ℕ) → up k + 1 ≡ up (suc k)) → (at : Standing) (r : Rule) (parts : Trees) (q : Symbol)
        (around : Around) (above : List (List ℕ)) → no_items q ≡ true
        → ((k : ℕ) → standing_in at r parts (up k) ≡ Some (standing q around no_role parts above))
        → (k : ℕ) (trees : Trees) → flat_map f (parts_in at r parts (up k) trees) ≡ []
    rest_silent up next at r parts q around above inside stands k nil = refl
    rest_silent up next at r parts q around above inside stands k (cons tree trees) =
        flat_map-append f (parts_at (standing_in at r parts (up k)) tree) (parts_in at r parts (up k + 1) trees)
        ∙ ap₂ ◌++◌
        (ap (λ o. flat_map f (parts_at o tree)) (stands k) ∙ silent (standing q around no_role parts above) tree inside)
        (ap (λ i. flat_map f (parts_in at r parts i trees)) (next k)
        ∙ rest_silent up next at r parts q around above inside stands (suc k) trees)

    abbrev Size : List Part → ℕ
    Size parts = length (flat_map f parts)

    size_both : (xs ys : List Part) → Size (xs ++ ys) ≡ Size xs + Size ys
    size_both xs ys = ap length (flat_map-append f xs ys) ∙ length-append (flat_map f xs) (flat_map f ys)

    -- a stage, with what it gives, its words, its end and its items
    stage_size : (own : List ℕ) (first second : List ℕ) (ends rest : List Part) (n : ℕ) → length own ≡ s → first ≡ []
        → second ≡ [] → flat_map f ends ≡ [] → Size rest ≡ n
        → length (own ++ (first ++ (second ++ flat_map f (ends ++ rest)))) ≡ s + n
    stage_size own first second ends rest n size none none' none'' later =
        ap (λ l. length (own ++ l))
        (ap₂ ◌++◌ none (ap₂ ◌++◌ none' (flat_map-append f ends rest ∙ ap (λ l. l ++ flat_map f rest) none'')))
        ∙ length-append own (flat_map f rest) ∙ ap₂ (λ m n. m + n) size later

    module _ (naming : Naming) where
      mutual
        item_size : (i : SheetItem) (tree : Tree) (around : Around) (role : Role) (beside : Trees) (above : List (List ℕ))
            → StandsItem naming i tree
            → Size (parts_at (Some (standing symbol.Item around role beside above)) tree) ≡ counted_item s c i
        item_size (do_item effects) tree around role beside above stands =
            behind_word "do" (Full (StandEffects naming [] effects))
            (λ tree. Size (parts_at (Some (standing symbol.Item around role beside above)) tree) ≡ 0) tree stands
            (λ g t from to es there. ap length (ap₂ ◌++◌ (forms _ rule.Do _ from refl)
            (ap₂ ◌++◌ (atoms _ (codes "do") g)
            (rest_silent suc (λ k. omega arith) (standing symbol.Item around role beside above) rule.Do
            (cons (word (codes "do") g t) es) symbol.Effect around (above ++ []) refl (λ k. refl) 0 es))))
        item_size (stage number game_class end body) (word bytes from to) around role beside above stands = absurd stands
        item_size (stage number game_class end body) (list nil from to) around role beside above stands = absurd stands
        item_size (stage number game_class end body) (list (cons a nil) from to) around role beside above stands =
            absurd stands.1
        item_size (stage number game_class end body) (list (cons a (cons b parts)) from to) around role beside above stands =
            absurd stands.1.0
        item_size (stage number player_class end body) tree around role beside above stands =
            row_words "stage" "player"
            (Row (Atom "end" ▸ StandsTest naming [] end ▸ End) ▸ Full (StandItems naming body End))
            (λ tree. Size (parts_at (Some (standing symbol.Item around role beside above)) tree) ≡ s + counted s c body) tree
            stands
            (λ g t g' t' from to parts more. first_part (Row (Atom "end" ▸ StandsTest naming [] end ▸ End))
            (Full (StandItems naming body End))
            (λ l. Size (parts_at (Some (standing symbol.Item around role beside above))
            (list (cons (word (codes "stage") g t) (cons (word (codes "player") g' t') l)) from to)) ≡ s + counted s c body)
            parts more
            (λ e is' here there.
            let whole = cons (word (codes "stage") g t) (cons (word (codes "player") g' t') (cons e is')) in
            let at = standing symbol.Item around role beside above in
            stage_size (f (form at rule.PlayerStage whole from)) _ _
            (parts_at (Some (standing symbol.End (in_stage player_class around) no_role whole (above ++ []))) e)
            (parts_in at rule.PlayerStage whole 3 is') (counted s c body) (players at whole from) (atoms _ (codes "stage") g)
            (atoms _ (codes "player") g') (silent _ e refl)
            (items_size body is' (λ k. suc (suc (suc k))) (λ k. omega arith) at rule.PlayerStage whole
            (in_stage player_class around) (above ++ []) (λ k. refl) 0 there.1)))
        item_size (stage number team_class end body) tree around role beside above stands =
            row_words "stage" "team"
            (Row (Atom "end" ▸ StandsTest naming [] end ▸ End) ▸ Full (StandItems naming body End))
            (λ tree. Size (parts_at (Some (standing symbol.Item around role beside above)) tree) ≡ s + counted s c body) tree
            stands
            (λ g t g' t' from to parts more. first_part (Row (Atom "end" ▸ StandsTest naming [] end ▸ End))
            (Full (StandItems naming body End))
            (λ l. Size (parts_at (Some (standing symbol.Item around role beside above))
            (list (cons (word (codes "stage") g t) (cons (word (codes "team") g' t') l)) from to)) ≡ s + counted s c body)
            parts more
            (λ e is' here there.
            let whole = cons (word (codes "stage") g t) (cons (word (codes "team") g' t') (cons e is')) in
            let at = standing symbol.Item around role beside above in
            stage_size (f (form at rule.TeamStage whole from)) _ _
            (parts_at (Some (standing symbol.End (in_stage team_class around) no_role whole (above ++ []))) e)
            (parts_in at rule.TeamStage whole 3 is') (counted s c body) (teams at whole from) (atoms _ (codes "stage") g)
            (atoms _ (codes "team") g') (silent _ e refl)
            (items_size body is' (λ k. suc (suc (suc k))) (λ k. omega arith) at rule.TeamStage whole
            (in_stage team_class around) (above ++ []) (λ k. refl) 0 there.1)))
        item_size (choice site alts) tree around role beside above stands =
            behind_word "choice" (Full (StandAlts naming alts))
            (λ tree. Size (parts_at (Some (standing symbol.Item around role beside above)) tree) ≡ c) tree stands
            (λ g t from to as' there.
            let whole = cons (word (codes "choice") g t) as' in
            let at = standing symbol.Item around role beside above in
            let none = ap₂ ◌++◌ (atoms _ (codes "choice") g)
            (rest_silent suc (λ k. omega arith) at rule.Choice whole symbol.Alternative around (above ++ []) refl (λ k. refl) 0
            as') in
            ap (λ l. length (f (form at rule.Choice whole from) ++ l)) none
            ∙ length-append (f (form at rule.Choice whole from)) [] ∙ no_more (length (f (form at rule.Choice whole from))) c
            (choices at whole from))

        items_size : (items : SheetItems) (trees : Trees) (up : ℕ → ℕ) → ((k : ℕ) → up k + 1 ≡ up (suc k)) → (at : Standing)
            (r : Rule) (parts : Trees) (around : Around) (above : List (List ℕ))
            → ((k : ℕ) → standing_in at r parts (up k) ≡ Some (standing symbol.Item around no_role parts above))
            → (k : ℕ) → StandItems naming items End trees → Size (parts_in at r parts (up k) trees) ≡ counted s c items
        items_size no_item nil up next at r parts around above stand k stands = refl
        items_size no_item (cons tree trees) up next at r parts around above stand k stands = absurd stands
        items_size (item i items) nil up next at r parts around above stand k stands = absurd stands
        items_size (item i items) (cons tree trees) up next at r parts around above stand k stands =
            size_both (parts_at (standing_in at r parts (up k)) tree) (parts_in at r parts (up k + 1) trees)
            ∙ ap₂ (λ m n. m + n)
            (ap (λ o. Size (parts_at o tree)) (stand k) ∙ item_size i tree around no_role parts above stands.0)
            (ap (λ j. Size (parts_in at r parts j trees)) (next k)
            ∙ items_size items trees up next at r parts around above stand (suc k) stands.1)

    -- what follows the setup
    body_size : (sheet : Sheet) (whole : Trees) (k : ℕ) (items : SheetItems) (trees : Trees)
        → StandItems (sheet_naming sheet) items (StandsScoring sheet ▸ End) trees → count whole ≡ suc (suc k) + count trees
        → Size (parts_in standing_alone rule.Game whole (suc (suc k)) trees) ≡ counted s c items
    body_size sheet whole k no_item nil stands total = absurd stands
    body_size sheet whole k no_item (cons tree nil) stands total =
        size_both (parts_at (standing_in standing_alone rule.Game whole (suc (suc k))) tree) []
        ∙ ap (λ n. n + 0) (ap (λ o. Size (parts_at o tree)) (stands_last whole k total)
        ∙ ap length (silent (standing symbol.Scoring outside no_role whole []) tree refl))
    body_size sheet whole k no_item (cons tree (cons next trees)) stands total = absurd stands.1
    body_size sheet whole k (item i items) nil stands total = absurd stands
    body_size sheet whole k (item i items) (cons tree nil) stands total = absurd (none_left items stands.1)
      where
        none_left : (items : SheetItems) → StandItems (sheet_naming sheet) items (StandsScoring sheet ▸ End) nil → ⊥
        none_left no_item stands = stands
        none_left (item i items) stands = stands
    body_size sheet whole k (item i items) (cons tree (cons next trees)) stands total =
        size_both (parts_at (standing_in standing_alone rule.Game whole (suc (suc k))) tree)
        (parts_in standing_alone rule.Game whole (suc (suc k) + 1) (cons next trees))
        ∙ ap₂ (λ m n. m + n)
        (ap (λ o. Size (parts_at o tree)) (stands_item whole k (count trees) total)
        ∙ item_size (sheet_naming sheet) i tree outside no_role whole [] stands.0)
        (ap (λ j. Size (parts_in standing_alone rule.Game whole j (cons next trees))) (sym (one_more k))
        ∙ body_size sheet whole (suc k) items (cons next trees) stands.1 (omega (arith, total)))

    form_size : (sheet : Sheet) (tree : Tree) → Stands sheet tree → Size (parts_of tree) ≡ counted s c sheet.items
    form_size sheet tree stands =
        whole_form sheet (λ tree. Size (parts_of tree) ≡ counted s c sheet.items) tree stands
        (λ a b c' d e f' from to lines rest setup items.
        let all = cons (word (codes "game") a b) (cons (list (cons (word (codes "setup") c' d) lines) e f') rest) in
        ap length (ap₂ ◌++◌ (game standing_alone all from) (ap₂ ◌++◌ (atoms _ (codes "game") a)
        (flat_map-append f (parts_at (Some (standing symbol.Setup outside no_role all []))
        (list (cons (word (codes "setup") c' d) lines) e f')) (parts_in standing_alone rule.Game all 2 rest)
        ∙ ap (λ l. l ++ flat_map f (parts_in standing_alone rule.Game all 2 rest))
        (silent (standing symbol.Setup outside no_role all []) (list (cons (word (codes "setup") c' d) lines) e f') refl))))
        ∙ body_size sheet all 0 sheet.items rest items (omega arith))

-- STAGES AND CHOICES

stages_alone : (at : Standing) (r : Rule) (parts : Trees) (from : ℕ) → is_no_item r ≡ true → stages_of (form at r parts from) ≡ []
stages_alone at rule.PlayerStage parts from is = absurd cc
stages_alone at rule.TeamStage parts from is = absurd cc
stages_alone at r parts from is = refl

choices_alone : (at : Standing) (r : Rule) (parts : Trees) (from : ℕ) → is_no_item r ≡ true
    → choices_in (form at r parts from) ≡ []
choices_alone at rule.Choice parts from is = absurd cc
choices_alone at r parts from is = refl

pub stages_are : (sheet : Sheet) (tree : Tree) → Stands sheet tree
    → length (flat_map stages_of (parts_of tree)) ≡ length (stages_in sheet.items)
stages_are sheet tree stands =
    form_size stages_of 1 0 (λ at bytes from. refl) stages_alone (λ at parts from. refl) (λ at parts from. refl)
    (λ at parts from. refl) (λ at parts from. refl) sheet tree stands
    ∙ stages_counted sheet.items

pub choices_are : (sheet : Sheet) (tree : Tree) → Stands sheet tree
    → length (flat_map choices_in (parts_of tree)) ≡ length (sites_in sheet.items)
choices_are sheet tree stands =
    form_size choices_in 0 1 (λ at bytes from. refl) choices_alone (λ at parts from. refl) (λ at parts from. refl)
    (λ at parts from. refl) (λ at parts from. refl) sheet tree stands
    ∙ sites_counted sheet.items
