-- A sheet that stands for a form and has the names of the form mentions the words that the form mentions, and its names are
-- numbered by their first mention.
use Rattle.std.proofs.Common.{◌≡◌, ℕ, List, [], ◌∷◌, ◌++◌, flat_map, refl, sym, ap, ap₂, ◌∙◌, append_assoc}
use Rattle.std.proofs.lemmas.List.{append-nil}
use Rattle.rc_base.specs.Tree.{Tree, word, list, Trees, nil, cons}
use Rattle.rc_sheet_spec.specs.Sheet.{Names, Best, highest, lowest, Sheet}
use Rattle.rc_sheet_spec.specs.Mentions.{in_deck, in_map, in_items, in_int, mentions}
use Rattle.rc_sheet_spec.specs.FormMentions.{body, deck_lines, points_lines, points_map, deck_loc, attr_mentions, value_mentions, map_mentions, loc_mentions, num_mentions, var_mentions, AreNames, all_gathered, map_word, loc_word, num_word, all_var_words}
use Rattle.rc_base.specs.Words.{different}
use Rattle.rc_sheet_spec.specs.Numbering.{mentioned}
use Rattle.rc_sheet_spec.specs.Rows.{◌▸◌, End}
use Rattle.rc_sheet_spec.specs.Naming.{self_scope, sheet_naming}
use Rattle.rc_sheet_spec.specs.StandsSetup.{StandsSetup, numbered, lines_with}
use Rattle.rc_sheet_spec.specs.StandsItems.{StandItems}
use Rattle.rc_sheet_spec.specs.Stands.{StandsBest, StandsScoring, Stands}
use Rattle.rc_sheet.proofs.Mentioned.Common.{Kind, attrs, values, maps, locs, nums, vars, of_kind, names_in, said, all_words_in, said-append, SayAll, Speaks, then_speak, last_speaks, plain_speaks}
use Rattle.rc_sheet.proofs.Mentioned.Rows.{text_speaks}
use Rattle.rc_sheet.proofs.Mentioned.Forms.{int_speaks, items_then}
use Rattle.rc_sheet.proofs.Mentioned.Setup.{deck_words, points_words, decks_said, maps_said}

-- the scoring
best_speaks : {kind : Kind} {names : Names} (best : Best) → Speaks kind names (StandsBest best) []
best_speaks highest = text_speaks "max" refl
best_speaks lowest = text_speaks "min" refl

scoring_speaks : {kind : Kind} (sheet : Sheet) → Speaks kind sheet.names (StandsScoring sheet) (in_int sheet.score)
scoring_speaks {kind} sheet =
    let best : Speaks kind sheet.names (StandsBest sheet.best) [] = best_speaks sheet.best in
    plain_speaks "scoring" refl best.other
    (then_speak best (last_speaks (int_speaks (sheet_naming sheet) self_scope sheet.score)))

-- all mentions of a form of one kind
abbrev pub form_words : Kind → Tree → List (List ℕ)
form_words attrs form = attr_mentions form
form_words values form = value_mentions form
form_words maps form = map_mentions form
form_words locs form = loc_mentions form
form_words nums form = num_mentions form
form_words vars form = var_mentions form

-- lines that say nothing
none_said : (lines : List Tree) → flat_map {A = List ℕ} (λ line. []) lines ≡ []
none_said [] = refl
none_said (line ∷ lines) = none_said lines

-- they stand in decks, in point maps, and behind the setup
form_words-parts : (kind : Kind) (form : Tree)
    → form_words kind form
    ≡ flat_map (deck_words kind) (deck_lines form)
    ++ flat_map (points_words kind) (points_lines form)
    ++ all_words_in kind (body form)
form_words-parts attrs form = refl
form_words-parts values form = refl
form_words-parts maps form =
    ap (λ words. words ++ flat_map points_map (points_lines form) ++ all_gathered map_word (body form))
    (sym (none_said (deck_lines form)))
form_words-parts locs form =
    ap (λ words. words ++ all_gathered loc_word (body form))
    (sym (append-nil (flat_map deck_loc (deck_lines form)))
    ∙ ap (λ words. flat_map deck_loc (deck_lines form) ++ words) (sym (none_said (points_lines form))))
form_words-parts nums form =
    ap₂ (λ xs ys. xs ++ ys ++ all_gathered num_word (body form)) (sym (none_said (deck_lines form)))
    (sym (none_said (points_lines form)))
form_words-parts vars form =
    ap₂ (λ xs ys. xs ++ ys ++ all_var_words (body form)) (sym (none_said (deck_lines form)))
    (sym (none_said (points_lines form)))

-- the setup, and what stands behind it
parts_said : (kind : Kind) (sheet : Sheet) (lines rest : Trees) → StandsSetup (sheet_naming sheet) sheet lines
    → StandItems (sheet_naming sheet) sheet.items (StandsScoring sheet ▸ End) rest
    → said kind sheet.names (mentions sheet)
    ≡ flat_map (deck_words kind) (lines_with "create" "deck" lines)
    ++ flat_map (points_words kind) (lines_with "put" "points" lines)
    ++ all_words_in kind rest
parts_said kind sheet lines rest setup stand =
    let decks = flat_map in_deck sheet.decks in
    let points = flat_map in_map (numbered sheet.points) in
    let behind : SayAll kind sheet.names (in_items sheet.items ++ in_int sheet.score) rest =
    (items_then (sheet_naming sheet) sheet.items (last_speaks (scoring_speaks sheet))).says rest stand in
    ap (said kind sheet.names) (append_assoc (decks ++ points) (in_items sheet.items) (in_int sheet.score))
    ∙ said-append kind sheet.names (decks ++ points) (in_items sheet.items ++ in_int sheet.score)
    ∙ ap₂ ◌++◌
    (said-append kind sheet.names decks points
    ∙ ap₂ ◌++◌ (decks_said kind (sheet_naming sheet) sheet.decks _ setup.decks)
    (maps_said kind (sheet_naming sheet) (numbered sheet.points) _ setup.points))
    (behind.same)

-- a sheet mentions what its form mentions
pub sheet_said : (kind : Kind) (sheet : Sheet) (form : Tree) → Stands sheet form
    → said kind sheet.names (mentions sheet) ≡ form_words kind form
sheet_said kind sheet (word bytes from to) stands = absurd stands
sheet_said kind sheet (list nil from to) stands = absurd stands
sheet_said kind sheet (list (cons head nil) from to) stands = absurd stands.1
sheet_said kind sheet (list (cons head (cons (word bytes a b) rest)) from to) stands = absurd stands.1.0
sheet_said kind sheet (list (cons head (cons (list nil a b) rest)) from to) stands = absurd stands.1.0
sheet_said kind sheet (list (cons head (cons (list (cons setup lines) a b) rest)) from to) stands =
    parts_said kind sheet lines rest stands.1.0.1.1 stands.1.1.1
    ∙ sym (form_words-parts kind (list (cons head (cons (list (cons setup lines) a b) rest)) from to))

-- names that are those of the form are numbered by their first mention
pub names_numbered : (kind : Kind) (sheet : Sheet) (form : Tree) → Stands sheet form → AreNames sheet form
    → names_in kind sheet.names ≡ different (mentioned sheet (of_kind kind) (names_in kind sheet.names))
names_numbered kind sheet form stands names = names_are kind ∙ ap different (sym (sheet_said kind sheet form stands))
  where
    names_are : (kind : Kind) → names_in kind sheet.names ≡ different (form_words kind form)
    names_are attrs = ap (λ n. n.attrs) names
    names_are values = ap (λ n. n.values) names
    names_are maps = ap (λ n. n.maps) names
    names_are locs = ap (λ n. n.locs) names
    names_are nums = ap (λ n. n.nums) names
    names_are vars = ap (λ n. n.vars) names
