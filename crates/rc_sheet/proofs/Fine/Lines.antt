-- What holds of the lines that are read, where each line of a form without a fault keeps it.
use Rattle.std.proofs.Common.{◌≡◌, ℕ, ◌+◌, ◌≤◌, true, List, [], ◌∷◌, ◌++◌, length, Option, Some, None, is_none, option_map, flat_map, append_assoc, append-nil, refl, sym, subst, ap, ◌∙◌, arith}
use Rattle.std.proofs.lemmas.List.Elements.{recursion_from_All}
use Rattle.std.proofs.lemmas.Option.{same_Some}
use Rattle.std.proofs.lemmas.Grind.{flat_map-append}
use Rattle.rc_base.specs.Tree.{Tree, word, list, Trees, nil, cons}
use Rattle.rc_base.specs.Deck.{Entry}
use Rattle.rc_sheet_spec.specs.Sheet.{Teams, DeckLine}
use Rattle.rc_base.specs.Limits.{most_players}
use Rattle.rc_deck.proofs.EachLemmas.{parts_of_append}
use Rattle.rc_sheet_spec.specs.Naming.{Naming}
use Rattle.rc_check.specs.Keyword.{text_of}
use Rattle.rc_check.specs.Faults.{faults, faults_at, faults_in, rule_of, place_at, count}
use Rattle.rc_check.specs.declared.keyword.Keyword.TheVariants as keyword
use Rattle.rc_check.specs.declared.grammar.Symbol.TheVariants as symbol
use Rattle.rc_check.specs.declared.grammar.Rule.{Rule}
use Rattle.rc_check.specs.declared.grammar.Rule.TheVariants as rule
use Rattle.rc_check.specs.SecondParts.{Standing, Part, atom, form, parts_at, parts_in, parts_of, with_form, standing_in, standing_alone}
use Rattle.rc_check.specs.SecondNames.{players_in, teams_in, cards_in}
use Rattle.rc_check.specs.SecondFaults.{faults_of, faults_behind, second_faults}
use Rattle.rc_resolve.specs.Naming.{naming_of}
use Rattle.rc_sheet.specs.ReadNames.{◌>>=◌, ensure, rule_at}
use Rattle.rc_sheet.specs.ReadSetup.{Setup, Lines, no_line, count_at, teams_at, deck_at, points_at, players_line, teams_line, deck_line, points_line, line_rule, line_at, lines_at, setup_of, setup_at}
use Rattle.rc_sheet.specs.ReadSheet.{setup_rule, setup_form_at}
use Rattle.rc_sheet.proofs.Means.{Means, nothing, something, means_if, weaker, behind, ensured, sized_is}
use Rattle.rc_sheet.proofs.Shapes.{none_in_both, shape_of, line_place}
use Rattle.rc_sheet.proofs.Bodies.{standing_at}
use Rattle.rc_sheet.proofs.Silent.{tree_silent, row_none}
use Rattle.rc_sheet.proofs.Lands.{never, never_roles}
use Rattle.rc_sheet.proofs.SetupCounts.{below_lines, is_below, below_lawful, body_below, is_line_rule, line_parts}
use Rattle.rc_sheet.proofs.Fine.Common.{Given, given_of, IsFine}
use Rattle.rc_sheet.proofs.GoodParts.{IsGood, GoodAt, AreGood, IsGoodForm, good_form, are_good}
use Rattle.rc_sheet.proofs.AllFine.{all_fine}
use Rattle.rc_sheet.proofs.Whole.{setup_of as setup_tree, game_body, parts_with, IsSheetForm, sheet_only}

-- the faults of parts and of others behind them
pub faults_of_both : (whole earlier first second : List Part) → faults_behind whole earlier (first ++ second) ≡ []
    → (faults_behind whole earlier first ≡ []) × (faults_behind whole (earlier ++ first) second ≡ [])
faults_of_both whole earlier [] second none =
    (refl, subst (λ e. faults_behind whole e second ≡ []) (sym (append-nil earlier)) none)
faults_of_both whole earlier (part ∷ first) second none =
    let both = none_in_both (faults_of whole earlier part) (faults_behind whole (earlier ++ part ∷ []) (first ++ second)) none in
    let rest = faults_of_both whole (earlier ++ part ∷ []) first second both.1 in (
      ap (λ l. l ++ faults_behind whole (earlier ++ part ∷ []) first) both.0 ∙ rest.0,
      subst (λ e. faults_behind whole e second ≡ []) (append_assoc earlier (part ∷ []) first) rest.1,
    )

module _ (given : Given) (naming : Naming) (whole : List Part) where
  -- a line of a form without a fault, behind earlier parts
  pub record IsLine (earlier : List Part) (at : Standing) (r : Rule) (parts : Trees) (from to : ℕ) : Type 0 where
    pub here : at.place ≡ symbol.Line
    pub told : rule_of symbol.Line parts ≡ Some r
    pub inner : faults_in r (count parts) 0 parts ≡ []
    pub sound : faults_behind whole earlier (parts_at (Some at) (list parts from to)) ≡ []
    pub good : IsGoodForm given naming at r parts

  -- behind earlier parts stand those of a list
  abbrev pub with_list : List Part → Standing → Trees → ℕ → ℕ → List Part
  with_list earlier at parts from to = earlier ++ parts_at (Some at) (list parts from to)

  -- each line keeps it
  pub record Keeps (Q : Lines → List Part → Type 0) : Type 0 where
    pub players : (said : Lines) (earlier : List Part) (at : Standing) (create second last : Tree) (from to n : ℕ)
        → IsLine earlier at rule.CreatePlayers (cons create (cons second (cons last nil))) from to
        → is_none said.players ≡ true → count_at 1 most_players last ≡ Some n → Q said earlier
        → Q (record said { players = Some n }) (with_list earlier at (cons create (cons second (cons last nil))) from to)
    pub teams : (said : Lines) (earlier : List Part) (at : Standing) (create second : Tree) (parts : Trees) (from to : ℕ)
        (all : Teams)
        → IsLine earlier at rule.CreateTeams (cons create (cons second parts)) from to
        → is_none said.teams ≡ true → teams_at parts ≡ Some all → Q said earlier
        → Q (record said { teams = Some all }) (with_list earlier at (cons create (cons second parts)) from to)
    pub decks : (said : Lines) (earlier : List Part) (at : Standing) (create second loc tree : Tree) (from to : ℕ)
        (deck : DeckLine)
        → IsLine earlier at rule.CreateDeck (cons create (cons second (cons loc (cons tree nil)))) from to
        → deck_at naming loc tree ≡ Some deck → Q said earlier
        → Q (record said { decks = said.decks ++ deck ∷ [] })
        (with_list earlier at (cons create (cons second (cons loc (cons tree nil)))) from to)
    pub points : (said : Lines) (earlier : List Part) (at : Standing) (put second map tree : Tree) (from to : ℕ)
        (entries : List Entry)
        → IsLine earlier at rule.PutPoints (cons put (cons second (cons map (cons tree nil)))) from to
        → points_at naming (length said.points) map tree ≡ Some entries → Q said earlier
        → Q (record said { points = said.points ++ entries ∷ [] })
        (with_list earlier at (cons put (cons second (cons map (cons tree nil)))) from to)

  module _ (Q : Lines → List Part → Type 0) (keeps : Keeps Q) where
    -- a line by its rule
    rule_keeps : (said : Lines) (earlier : List Part) (at : Standing) (r : Rule) (parts : Trees) (from to : ℕ)
        → IsLine earlier at r parts from to → Q said earlier
        → Means (line_rule naming said r parts) (λ next. Q next (with_list earlier at parts from to))
    unfolding players_line teams_line deck_line points_line
    rule_keeps said earlier at rule.CreatePlayers (cons create (cons second (cons last nil))) from to line q =
        behind (ensure (is_none said.players)) _ (ensured (is_none said.players))
        (λ u first. behind (count_at 1 most_players last) _ (means_if (count_at 1 most_players last) (λ n is. is))
        (λ n is. something _ (keeps.players said earlier at create second last from to n line first is q)))
    rule_keeps said earlier at rule.CreateTeams (cons create (cons second parts)) from to line q =
        behind (ensure (is_none said.teams)) _ (ensured (is_none said.teams))
        (λ u first. behind (teams_at parts) _ (means_if (teams_at parts) (λ all is. is))
        (λ all is. something _ (keeps.teams said earlier at create second parts from to all line first is q)))
    rule_keeps said earlier at rule.CreateDeck (cons create (cons second (cons loc (cons tree nil)))) from to line q =
        behind (deck_at naming loc tree) _ (means_if (deck_at naming loc tree) (λ deck is. is))
        (λ deck is. something _ (keeps.decks said earlier at create second loc tree from to deck line is q))
    rule_keeps said earlier at rule.PutPoints (cons put (cons second (cons map (cons tree nil)))) from to line q =
        behind (points_at naming (length said.points) map tree) _
        (means_if (points_at naming (length said.points) map tree) (λ all is. is))
        (λ all is. something _ (keeps.points said earlier at put second map tree from to all line is q))
    rule_keeps said earlier at r parts from to line q = nothing

    -- a line
    line_keeps : (said : Lines) (earlier : List Part) (at : Standing) (tree : Tree) → at.place ≡ symbol.Line
        → faults_at (Some symbol.Line) tree ≡ [] → faults_behind whole earlier (parts_at (Some at) tree) ≡ []
        → IsGood given naming at tree → Q said earlier
        → Means (line_at naming said tree) (λ next. Q next (earlier ++ parts_at (Some at) tree))
    unfolding line_at
    line_keeps said earlier at (word bytes from to) here shaped sound good q = nothing
    line_keeps said earlier at (list parts from to) here shaped sound good q =
        behind (rule_at symbol.Line parts) _ (sized_is (count parts) (rule_of symbol.Line parts))
        (λ r told.
        let shape = shape_of symbol.Line parts from to shaped in
        let form = good_form given naming at parts from to good in
        let same = same_Some shape.form r (sym shape.told ∙ told) in
        let same' = same_Some form.0 r (sym form.1.told ∙ ap (λ p. rule_of p parts) here ∙ told) in
        rule_keeps said earlier at r parts from to
        (record {
          here = here;
          told = told;
          inner = subst (λ r. faults_in r (count parts) 0 parts ≡ []) same shape.inner;
          sound = sound;
          good = subst (λ r. IsGoodForm given naming at r parts) same' form.1;
        }) q)

    -- lines from an index on
    lines_keep : (at : Standing) (all : Trees) (index : ℕ) (lines : Trees) → 1 ≤ index
        → faults_in rule.Setup (count all) index lines ≡ []
        → (said : Lines) (earlier : List Part) → faults_behind whole earlier (parts_in at rule.Setup all index lines) ≡ []
        → AreGood given naming at rule.Setup all index lines → Q said earlier
        → Means (lines_at naming said lines) (λ next. Q next (earlier ++ parts_in at rule.Setup all index lines))
    lines_keep at all index nil above shaped said earlier sound good q =
        something said (subst (Q said) (sym (append-nil earlier)) q)
    lines_keep at all index (cons line lines) above shaped said earlier sound good q =
        let stand = standing_at at rule.Setup all index symbol.Line in
        let here = line_place (count all) index above in
        let stands : standing_in at rule.Setup all index ≡ Some stand =
        ap (λ o. option_map (λ q. standing_at at rule.Setup all index q) o) here in
        let apart = none_in_both (faults_at (place_at rule.Setup (count all) index) line)
        (faults_in rule.Setup (count all) (index + 1) lines) shaped in
        let both = faults_of_both whole earlier (parts_at (standing_in at rule.Setup all index) line)
        (parts_in at rule.Setup all (index + 1) lines) sound in
        behind (line_at naming said line) _
        (line_keeps said earlier stand line refl (subst (λ o. faults_at o line ≡ []) here apart.0)
        (subst (λ o. faults_behind whole earlier (parts_at o line) ≡ []) stands both.0)
        (subst (λ o. GoodAt given naming o line) stands good.0) q)
        (λ next is.
        let inner = parts_at (Some stand) line in
        let rest = parts_in at rule.Setup all (index + 1) lines in
        weaker (lines_at naming next lines)
        (lines_keep at all (index + 1) lines (omega (arith, above)) apart.1 next (earlier ++ inner)
        (subst (λ o. faults_behind whole (earlier ++ parts_at o line) rest ≡ []) stands both.1) good.1 is)
        (λ last q. subst (λ o. Q last (earlier ++ (parts_at o line ++ rest))) (sym stands)
        (subst (Q last) (append_assoc earlier inner rest) q)))

-- the setup of a form
abbrev pub setup_in : Tree → Tree
setup_in (list (cons head (cons setup rest)) from to) = setup
setup_in tree = tree

-- A whole form without a fault, with its parts.
module _ (a b c d e f from to : ℕ) (lines rest : Trees) where
  abbrev pub all_parts : Trees
  all_parts = parts_with a b (setup_tree c d e f lines) rest

  abbrev pub whole_form : Tree
  whole_form = list all_parts from to

  abbrev pub setup_stand : Standing
  setup_stand = standing_at standing_alone rule.Game all_parts 1 symbol.Setup

  abbrev pub setup_parts : Trees
  setup_parts = cons (word (text_of keyword.Setup) c d) lines

  -- the parts before the lines
  abbrev pub before_lines : List Part
  before_lines =
      form standing_alone rule.Game all_parts from
      ∷ atom (standing_at standing_alone rule.Game all_parts 0 (symbol.Word keyword.Game)) (text_of keyword.Game) a
      ∷ form setup_stand rule.Setup setup_parts e
      ∷ atom (standing_at setup_stand rule.Setup setup_parts 0 (symbol.Word keyword.Setup)) (text_of keyword.Setup) c ∷ []

  -- those of the lines, and those behind them
  abbrev pub of_lines : List Part
  of_lines = parts_in setup_stand rule.Setup setup_parts 1 lines

  abbrev pub behind_lines : List Part
  behind_lines = parts_in standing_alone rule.Game all_parts 2 rest

-- PARTS THAT SAY NOTHING OF A SETUP

-- what only lines give, of which there is nothing below them
pub record OfLines {X : Type 0} (gives : Part → List X) : Type 0 where
  pub atoms : (at : Standing) (bytes : List ℕ) (from : ℕ) → gives (atom at bytes from) ≡ []
  pub forms : (at : Standing) (r : Rule) (parts : Trees) (from : ℕ) → is_below r ≡ true → gives (form at r parts from) ≡ []

pub below_silent : {X : Type 0} (gives : Part → List X) → OfLines gives → (at : Standing) (tree : Tree)
    → below_lines at.place ≡ true → flat_map gives (parts_at (Some at) tree) ≡ []
below_silent gives of_lines at tree inside =
    tree_silent gives below_lines is_below never below_lawful refl (never_roles is_below)
    (λ at bytes from quiet. of_lines.atoms at bytes from) of_lines.forms at tree inside refl

-- a line's form gives what there is
pub line_gives : {X : Type 0} (gives : Part → List X) → OfLines gives → (at : Standing) (r : Rule) (parts : Trees) (from to : ℕ)
    → at.place ≡ symbol.Line → rule_of symbol.Line parts ≡ Some r → is_line_rule r ≡ true
    → flat_map gives (parts_at (Some at) (list parts from to)) ≡ gives (form at r parts from)
line_gives gives of_lines at r parts from to here told line =
    ap (λ o. flat_map gives (with_form at parts from (λ r. parts_in at r parts 0 parts) o))
    (ap (λ p. rule_of p parts) here ∙ told)
    ∙ ap (λ l. gives (form at r parts from) ++ l)
    (row_none gives at r parts 0 0 parts (omega arith)
    (λ j q tree above is. below_silent gives of_lines (standing_at at r parts j q) tree
    (line_parts r line (count parts) j q is)))
    ∙ append-nil (gives (form at r parts from))

-- the parts of a line, from one on, give nothing that lines give
pub inner_silent : {X : Type 0} (gives : Part → List X) → OfLines gives → (at : Standing) (r : Rule) (all : Trees) (index : ℕ)
    (trees : Trees) → is_line_rule r ≡ true → flat_map gives (parts_in at r all index trees) ≡ []
inner_silent gives of_lines at r all index trees line =
    row_none gives at r all 0 index trees (omega arith)
    (λ j q tree above is. below_silent gives of_lines (standing_at at r all j q) tree (line_parts r line (count all) j q is))

-- what a line adds to what is said before it
pub line_adds : {X : Type 0} {given : Given} {naming : Naming} {whole earlier : List Part} {at : Standing} {r : Rule}
    {parts : Trees} {from to : ℕ} (gives : Part → List X) → OfLines gives → IsLine given naming whole earlier at r parts from to
    → is_line_rule r ≡ true
    → flat_map gives (earlier ++ parts_at (Some at) (list parts from to)) ≡ flat_map gives earlier ++ gives (form at r parts from)
line_adds {earlier = earlier} {at = at} {r = r} {parts = parts} {from = from} {to = to} gives of_lines line is =
    flat_map-append gives earlier (parts_at (Some at) (list parts from to))
    ∙ ap (λ l. flat_map gives earlier ++ l) (line_gives gives of_lines at r parts from to line.here line.told is)

-- where it adds nothing
pub adds_none : {X : Type 0} {given : Given} {naming : Naming} {whole earlier : List Part} {at : Standing} {r : Rule}
    {parts : Trees} {from to : ℕ} (gives : Part → List X) → OfLines gives → IsLine given naming whole earlier at r parts from to
    → is_line_rule r ≡ true
    → gives (form at r parts from) ≡ []
    → flat_map gives (earlier ++ parts_at (Some at) (list parts from to)) ≡ flat_map gives earlier
adds_none {earlier = earlier} gives of_lines line is none =
    line_adds gives of_lines line is ∙ ap (λ l. flat_map gives earlier ++ l) none ∙ append-nil (flat_map gives earlier)

-- players, teams and cards are said by lines
pub players_of_lines : OfLines players_in
players_of_lines = record { atoms = λ at bytes from. refl; forms = of_form }
  where
    of_form : (at : Standing) (r : Rule) (parts : Trees) (from : ℕ) → is_below r ≡ true → players_in (form at r parts from) ≡ []
    of_form at rule.CreatePlayers parts from is = absurd cc
    of_form at r parts from is = refl

pub teams_of_lines : OfLines teams_in
teams_of_lines = record { atoms = λ at bytes from. refl; forms = of_form }
  where
    of_form : (at : Standing) (r : Rule) (parts : Trees) (from : ℕ) → is_below r ≡ true → teams_in (form at r parts from) ≡ []
    of_form at rule.CreateTeams parts from is = absurd cc
    of_form at r parts from is = refl

pub cards_of_lines : OfLines cards_in
cards_of_lines = record { atoms = λ at bytes from. refl; forms = of_form }
  where
    of_form : (at : Standing) (r : Rule) (parts : Trees) (from : ℕ) → is_below r ≡ true → cards_in (form at r parts from) ≡ []
    of_form at rule.CreateDeck parts from is = absurd cc
    of_form at r parts from is = refl

-- some parts say the same of players, teams and cards as others
pub record SaySame (parts others : List Part) : Type 0 where
  pub players : flat_map players_in parts ≡ flat_map players_in others
  pub teams : flat_map teams_in parts ≡ flat_map teams_in others
  pub cards : flat_map cards_in parts ≡ flat_map cards_in others

-- what is read of a setup is Q, where these parts of the form say all of it
pub record IsSetupOf (Q : Lines → List Part → Type 0) (tree : Tree) (s : Setup) : Type 0 where
  pub said : Lines
  pub seen : List Part
  pub is : Q said seen
  pub players : said.players ≡ Some s.players
  pub teams : said.teams ≡ s.teams
  pub decks : said.decks ≡ s.decks
  pub points : said.points ≡ s.points
  pub all : SaySame (parts_of tree) seen

-- parts that say nothing of players, teams and cards
abbrev pub SayNothing : List Part → Type 0
SayNothing parts = SaySame parts []

-- no part behind the setup is a line's
pub behind_silent : {X : Type 0} (gives : Part → List X) → OfLines gives → (all rest : Trees)
    → flat_map gives (parts_in standing_alone rule.Game all 2 rest) ≡ []
behind_silent gives of_lines all rest =
    row_none gives standing_alone rule.Game all 2 2 rest (omega arith)
    (λ j q tree above is. below_silent gives of_lines (standing_at standing_alone rule.Game all j q) tree
    (body_below q (game_body all j q above is).placed))

-- what is said before parts that say nothing is all that is said
pub all_said : {X : Type 0} (gives : Part → List X) (seen behind : List Part) → flat_map gives behind ≡ []
    → flat_map gives (seen ++ behind) ≡ flat_map gives seen
all_said gives seen behind none =
    flat_map-append gives seen behind ∙ ap (λ l. flat_map gives seen ++ l) none ∙ append-nil (flat_map gives seen)

-- the lines of a setup
setup_lines : (Q : Lines → List Part → Type 0) (tree : Tree) (naming : Naming) (seen : List Part) (lines : Trees)
    → SaySame (parts_of tree) seen
    → Means (lines_at naming no_line lines) (λ next. Q next seen) → Means (setup_at naming lines) (IsSetupOf Q tree)
setup_lines Q tree naming seen lines all means =
    behind (lines_at naming no_line lines) setup_of means
    (λ said q. of_said said q said.players refl)
  where
    of_said : (said : Lines) → Q said seen → (found : Option ℕ) → said.players ≡ found → Means (setup_of said) (IsSetupOf Q tree)
    of_said said q None is =
        subst (λ o. Means (o >>= λ players. Some
        (record { players = players; teams = said.teams; decks = said.decks; points = said.points }))
        (IsSetupOf Q tree)) (sym is) nothing
    of_said said q (Some n) is =
        subst (λ o. Means (o >>= λ players. Some
        (record { players = players; teams = said.teams; decks = said.decks; points = said.points }))
        (IsSetupOf Q tree)) (sym is)
        (something _ (record {
          said = said;
          seen = seen;
          is = q;
          players = is;
          teams = refl;
          decks = refl;
          points = refl;
          all = all;
        }))

-- the form of a setup
setup_form : (Q : Lines → List Part → Type 0) (tree : Tree) (naming : Naming) (c d e f : ℕ) (lines : Trees)
    → Means (setup_at naming lines) (IsSetupOf Q tree)
    → Means (setup_form_at naming (setup_tree c d e f lines)) (IsSetupOf Q tree)
unfolding setup_form_at
setup_form Q tree naming c d e f lines means =
    behind (rule_at symbol.Setup (cons (word (text_of keyword.Setup) c d) lines)) _
    (means_if (rule_at symbol.Setup (cons (word (text_of keyword.Setup) c d) lines)) (λ r is. is)) (λ r is. by r)
  where
    by : (r : Rule) → Means (setup_rule naming r (cons (word (text_of keyword.Setup) c d) lines)) (IsSetupOf Q tree)
    by rule.Setup = means
    by r = nothing

-- what a form without a fault keeps, where Q holds before its lines
abbrev pub KeepsIn : (Lines → List Part → Type 0) → Tree → Type 0
KeepsIn Q tree =
    Keeps (given_of tree) (naming_of tree) (parts_of tree) Q × ((parts : List Part) → SayNothing parts → Q no_line parts)

whole_keeps : (Q : Lines → List Part → Type 0) (a b c d e f from to : ℕ) (lines rest : Trees) →
    let tree = whole_form a b c d e f from to lines rest in
    IsSheetForm (setup_tree c d e f lines) lines rest (all_parts a b c d e f from to lines rest)
    → faults symbol.Sheet tree ≡ [] → second_faults tree ≡ [] → KeepsIn Q tree
    → Means (setup_form_at (naming_of tree) (setup_in tree)) (IsSetupOf Q tree)
whole_keeps Q a b c d e f from to lines rest whole_fits shaped sound keeps =
    let tree = whole_form a b c d e f from to lines rest in
    let all = all_parts a b c d e f from to lines rest in
    let stand = setup_stand a b c d e f from to lines rest in
    let parts = setup_parts a b c d e f from to lines rest in
    let first = before_lines a b c d e f from to lines rest in
    let ours = of_lines a b c d e f from to lines rest in
    let others = behind_lines a b c d e f from to lines rest in
    let fine = recursion_from_All (IsFine (given_of tree) (naming_of tree)) (parts_of tree) (all_fine tree shaped sound) in
    let fine' = parts_of_append (IsFine (given_of tree) (naming_of tree)) first (ours ++ others) fine in
    let fine'' = parts_of_append (IsFine (given_of tree) (naming_of tree)) ours others fine'.1 in
    let faultless = faults_of_both (parts_of tree) [] first (ours ++ others) sound in
    let faultless' = faults_of_both (parts_of tree) first ours others faultless.1 in
    setup_form Q tree (naming_of tree) c d e f lines
    (setup_lines Q tree (naming_of tree) (first ++ ours) lines
    (record {
      players = all_said players_in (first ++ ours) others (behind_silent players_in players_of_lines all rest);
      teams = all_said teams_in (first ++ ours) others (behind_silent teams_in teams_of_lines all rest);
      cards = all_said cards_in (first ++ ours) others (behind_silent cards_in cards_of_lines all rest);
    })
    (lines_keep (given_of tree) (naming_of tree) (parts_of tree) Q keeps.0 stand parts 1 lines (omega arith) whole_fits.lines_fine
    no_line first faultless'.0
    (are_good (given_of tree) (naming_of tree) stand rule.Setup parts 1 lines whole_fits.lines_fine fine''.0)
    (keeps.1 first (record { players = refl; teams = refl; cards = refl }))))

-- WHAT EACH LINE KEEPS HOLDS OF THE SETUP
pub setup_keeps : (Q : Lines → List Part → Type 0) (tree : Tree) → faults symbol.Sheet tree ≡ [] → second_faults tree ≡ []
    → KeepsIn Q tree → Means (setup_form_at (naming_of tree) (setup_in tree)) (IsSetupOf Q tree)
setup_keeps Q tree shaped sound keeps =
    sheet_only
    (λ tree. faults symbol.Sheet tree ≡ [] → second_faults tree ≡ [] → KeepsIn Q tree
    → Means (setup_form_at (naming_of tree) (setup_in tree)) (IsSetupOf Q tree))
    tree shaped
    (λ a b c d e f from to lines rest whole_fits shaped sound keeps.
    whole_keeps Q a b c d e f from to lines rest whole_fits shaped sound keeps)
    shaped sound keeps
