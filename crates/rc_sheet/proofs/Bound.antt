-- The variables that the binders of a form bind are those that it mentions.
use Rattle.std.proofs.Common.{◌≡◌, ℕ, ◌+◌, ◌≤◌, ◌==◌, Bool, true, false, not, ◌||◌, ◌&&◌, cond, List, [], ◌∷◌, ◌++◌, ◌⊎◌, inl, inr, ⊎_elim, Some, flat_map, option_map, refl, sym, subst, ap, ◌∙◌, arith, eqb-true, ltb-true}
use Rattle.std.specs.Prelude.{codes, if◌then◌else◌}
use Rattle.std.specs.List.{list_all, AllByRecursion}
use Rattle.std.proofs.lemmas.Bool.{or_from}
use Rattle.std.proofs.lemmas.List.{append-nil}
use Rattle.std.proofs.lemmas.Grind.{flat_map-append}
use Rattle.rc_base.specs.Tree.{Tree, word, list, Trees, nil, cons}
use Rattle.rc_sheet_spec.specs.FormMentions.{word_of, var_words, bound_words, all_var_words, var_mentions}
use Rattle.rc_sheet_spec.specs.FormMentions.{is_binder as is_binder_head}
use Rattle.rc_check.specs.Grammar.{forms_of}
use Rattle.rc_check.specs.Keyword.{text_of}
use Rattle.rc_check.specs.Faults.{faults, faults_at, faults_in, place_at, count, fits}
use Rattle.rc_check.specs.declared.keyword.Keyword.{Keyword}
use Rattle.rc_check.specs.declared.keyword.Keyword.TheVariants as keyword
use Rattle.rc_check.specs.declared.grammar.Symbol.{Symbol}
use Rattle.rc_check.specs.declared.grammar.Symbol.TheVariants as symbol
use Rattle.rc_check.specs.declared.grammar.Rule.{Rule}
use Rattle.rc_check.specs.declared.grammar.Rule.TheVariants as rule
use Rattle.rc_check.specs.SecondParts.{Standing, Part, atom, form, parts_at, parts_in, parts_of, with_form, standing_in, standing_alone, is_binder, word_in}
use Rattle.rc_sheet.proofs.Among.{Among, Within, among_left, among_right, among_either, both_within}
use Rattle.rc_sheet.proofs.Shapes.{none_in_both, shape_of, place_within, refuses, refuted, atom_only, fixed_only}
use Rattle.rc_sheet.proofs.Bodies.{is_body_rule, IsBody, body_rule, body_inner, standing_at, all_refused}
use Rattle.rc_sheet.proofs.Lands.{in_setup, never, never_roles}
use Rattle.rc_sheet.proofs.Silent.{lies_in, tree_silent}
use Rattle.rc_sheet.proofs.Whole.{setup_of, parts_with, sheet_only, game_body}

-- the variable that a part binds
abbrev pub bound_by : Part → List (List ℕ)
bound_by (atom at bytes from) = []
bound_by (form at r parts from) = if is_binder r then word_in 2 parts ∷ [] else []

-- only binders begin with these words behind a setup
abbrev binder_words : List (List ℕ)
binder_words = codes "filter" ∷ codes "all" ∷ codes "any" ∷ []

abbrev binds_alone : ℕ → Rule → Bool
binds_alone n r = is_binder r || (not (is_body_rule r) || list_all (refuses (place_at r n 0)) binder_words)

binder_begins : (r : Rule) (n : ℕ) → binds_alone n r ≡ true
binder_begins rule.Game n = refl
binder_begins r n = refl

others_refuse : (n : ℕ) (r : Rule) → is_body_rule r ≡ true → is_binder r ≡ false
    → AllByRecursion (λ bytes. refuses (place_at r n 0) bytes ≡ true) binder_words
others_refuse n r body quiet =
    all_refused (is_binder r) r (place_at r n 0) binder_words (binder_begins r n) body quiet

pub no_binder_head : (r : Rule) (n : ℕ) (head : Tree) → is_body_rule r ≡ true → is_binder r ≡ false
    → faults_at (place_at r n 0) head ≡ []
    → is_binder_head head ≡ false
no_binder_head r n head body quiet none =
    let refused = others_refuse n r body quiet in
    or_from _ _
    (or_from _ _ (refuted (place_at r n 0) "filter" head none refused.0) (refuted (place_at r n 0) "all" head none refused.1.0))
    (refuted (place_at r n 0) "any" head none refused.1.1.0)

-- what the parts of a list mention it mentions, where its third part is no variable that is bound, or mentions nothing else
parts_within : (head domain third : Tree) (rest : Trees) → (is_binder_head head ≡ false) ⊎ (var_words third ≡ [])
    → Within (all_var_words (cons head (cons domain (cons third rest)))) (bound_words (cons head (cons domain (cons third rest))))
parts_within head domain third rest either x is =
    ⊎_elim
    (λ one. among_left x _ (all_var_words rest)
    (among_left x (var_words head ++ var_words domain) _ (among_left x (var_words head) (var_words domain) one)))
    (λ later. ⊎_elim
    (λ one. among_left x _ (all_var_words rest)
    (among_left x (var_words head ++ var_words domain) _ (among_right x (var_words head) (var_words domain) one)))
    (λ last. ⊎_elim
    (λ one. among_left x _ (all_var_words rest)
    (among_right x (var_words head ++ var_words domain) _ (by (is_binder_head head) either one)))
    (λ one. among_right x _ (all_var_words rest) one)
    (among_either x (var_words third) (all_var_words rest) last))
    (among_either x (var_words domain) _ later))
    (among_either x (var_words head) _ is)
  where
    by : (b : Bool) → (b ≡ false) ⊎ (var_words third ≡ []) → Among x (var_words third)
        → Among x (cond b (word_of third) (var_words third))
    by false either one = one
    by true (inl is) one = absurd cc
    by true (inr is) one = absurd (subst (Among x) is one)

-- a form that is no binder
plain_within : (r : Rule) (parts : Trees) → is_body_rule r ≡ true → is_binder r ≡ false → faults_in r (count parts) 0 parts ≡ []
    → Within (all_var_words parts) (bound_words parts)
plain_within r nil body quiet none = λ x is. is
plain_within r (cons h nil) body quiet none = λ x is. subst (Among x) (append-nil (var_words h)) is
plain_within r (cons h (cons t nil)) body quiet none =
    λ x is. subst (Among x) (ap (λ l. var_words h ++ l) (append-nil (var_words t))) is
plain_within r (cons h (cons t (cons v rest))) body quiet none =
    let n = count (cons h (cons t (cons v rest))) in
    let head = (none_in_both (faults_at (place_at r n 0) h) (faults_in r n 1 (cons t (cons v rest))) none).0 in
    parts_within h t v rest (inl (no_binder_head r n h body quiet head))

-- a binder mentions its variable, and what its parts do
abbrev Binds : Trees → Type 0
Binds parts = Among (word_in 2 parts) (bound_words parts) × Within (all_var_words parts) (bound_words parts)

binder_within : (r : Rule) (k : Keyword) (parts : Trees) → (3 ≤ count parts) → ((n : ℕ) → place_at r n 0 ≡ Some (symbol.Word k))
    → ((n : ℕ) → place_at r n 2 ≡ Some symbol.Variable) → ((from to : ℕ) → is_binder_head (word (text_of k) from to) ≡ true)
    → faults_in r (count parts) 0 parts ≡ [] → Binds parts
binder_within r k nil long first third begins none = absurd (omega (arith, long))
binder_within r k (cons h nil) long first third begins none = absurd (omega (arith, long))
binder_within r k (cons h (cons t nil)) long first third begins none = absurd (omega (arith, long))
binder_within r k (cons h (cons t (cons v rest))) long first third begins none =
    let n = count (cons h (cons t (cons v rest))) in
    let head = none_in_both (faults_at (place_at r n 0) h) (faults_in r n 1 (cons t (cons v rest))) none in
    let second = none_in_both (faults_at (place_at r n 1) t) (faults_in r n 2 (cons v rest)) head.1 in
    let variable = none_in_both (faults_at (place_at r n 2) v) (faults_in r n 3 rest) second.1 in
    fixed_only k (λ h. Binds (cons h (cons t (cons v rest)))) h (subst (λ o. faults_at o h ≡ []) (first n) head.0)
    (λ from to.
    atom_only symbol.Variable (λ v. Binds (cons (word (text_of k) from to) (cons t (cons v rest)))) v refl
    (subst (λ o. faults_at o v ≡ []) (third n) variable.0)
    (λ bytes from' to' is. (
      among_left bytes _ (all_var_words rest)
          (among_right bytes (var_words t) _
          (subst (λ b. Among bytes (cond b (bytes ∷ []) [])) (sym (begins from to)) (inl refl))),
      parts_within (word (text_of k) from to) t (word bytes from' to') rest (inr refl),
    )))

-- each binder has three parts at least
four_long : (n : ℕ) → (n == 4) ≡ true → 3 ≤ n
four_long n is = let four = eqb-true n 4 is in omega (arith, four)

binders_bind : (r : Rule) (parts : Trees) → is_binder r ≡ true → fits (count parts) r ≡ true
    → faults_in r (count parts) 0 parts ≡ []
    → Binds parts
binders_bind rule.Filter parts is fit none =
    binder_within rule.Filter keyword.Filter parts (four_long (count parts) fit) (λ n. refl) (λ n. refl) (λ from to. refl) none
binders_bind rule.AnyOf parts is fit none =
    binder_within rule.AnyOf keyword.Any parts (four_long (count parts) fit) (λ n. refl) (λ n. refl) (λ from to. refl) none
binders_bind rule.Each parts is fit none =
    binder_within rule.Each keyword.All parts (let more = ltb-true 3 (count parts) fit in omega (arith, more)) (λ n. refl)
    (λ n. refl) (λ from to. refl) none
binders_bind rule.ForAll parts is fit none =
    binder_within rule.ForAll keyword.All parts (four_long (count parts) fit) (λ n. refl) (λ n. refl) (λ from to. refl) none
binders_bind rule.ForAny parts is fit none =
    binder_within rule.ForAny keyword.Any parts (four_long (count parts) fit) (λ n. refl) (λ n. refl) (λ from to. refl) none
binders_bind r parts is fit none = absurd cc

-- what a form binds, and then what its parts mention
form_within : (at : Standing) (r : Rule) (parts : Trees) (from : ℕ) (others : List (List ℕ)) → is_body_rule r ≡ true
    → fits (count parts) r ≡ true → faults_in r (count parts) 0 parts ≡ [] → Within others (all_var_words parts)
    → Within (bound_by (form at r parts from) ++ others) (bound_words parts)
form_within at r parts from others body fit none within = by (is_binder r) refl
  where
    by : (b : Bool) → is_binder r ≡ b → Within (cond b (word_in 2 parts ∷ []) [] ++ others) (bound_words parts)
    by false is x one = plain_within r parts body is none x (within x one)
    by true is x (inl one) =
        subst (λ w. Among w (bound_words parts)) (sym one) (binders_bind r parts is fit none).0
    by true is x (inr one) = (binders_bind r parts is fit none).1 x (within x one)

mutual
  -- what is bound in a tree it mentions
  tree_binds : (at : Standing) (tree : Tree) → IsBody at → faults_at (Some at.place) tree ≡ []
      → Within (flat_map bound_by (parts_at (Some at) tree)) (var_words tree)
  tree_binds at (word bytes from to) body none = λ x is. is
  tree_binds at (list parts from to) body none =
      let shape = shape_of at.place parts from to none in
      subst (λ o. Within (flat_map bound_by (with_form at parts from (λ r. parts_in at r parts 0 parts) o)) (bound_words parts))
      (sym shape.told)
      (form_within at shape.form parts from (flat_map bound_by (parts_in at shape.form parts 0 parts))
      (body_rule at.place parts shape.form body.placed shape.told) shape.fit shape.inner
      (row_binds at shape.form parts 0 0 parts (omega arith) (omega arith) shape.fit shape.inner
      (λ j q low is. body_inner at shape.form parts j q body shape.told is)))

  row_binds : (at : Standing) (r : Rule) (all : Trees) (low index : ℕ) (trees : Trees) → low ≤ index
      → index + count trees ≡ count all
      → fits (count all) r ≡ true → faults_in r (count all) index trees ≡ []
      → ((j : ℕ) (q : Symbol) → low ≤ j → place_at r (count all) j ≡ Some q → IsBody (standing_at at r all j q))
      → Within (flat_map bound_by (parts_in at r all index trees)) (all_var_words trees)
  row_binds at r all low index nil above counted fit none each = λ x is. is
  row_binds at r all low index (cons tree trees) above counted fit none each =
      let apart = none_in_both (faults_at (place_at r (count all) index) tree) (faults_in r (count all) (index + 1) trees) none in
      let place = place_within r (count all) index fit (omega (arith, counted)) in
      let stands : standing_in at r all index ≡ Some (standing_at at r all index place.0) =
      ap (λ o. option_map (λ q. standing_at at r all index q) o) place.1 in
      let here = tree_binds (standing_at at r all index place.0) tree (each index place.0 above place.1)
      (subst (λ o. faults_at o tree ≡ []) place.1 apart.0) in
      let later = row_binds at r all low (index + 1) trees (omega (arith, above)) (omega (arith, counted)) fit apart.1 each in
      subst (λ l. Within l (var_words tree ++ all_var_words trees))
      (sym (flat_map-append bound_by (parts_at (standing_in at r all index) tree) (parts_in at r all (index + 1) trees)))
      (both_within (flat_map bound_by (parts_at (standing_in at r all index) tree)) (var_words tree)
      (flat_map bound_by (parts_in at r all (index + 1) trees)) (all_var_words trees)
      (subst (λ o. Within (flat_map bound_by (parts_at o tree)) (var_words tree)) (sym stands) here) later)

-- nothing is bound in a setup
abbrev no_binder : Rule → Bool
no_binder rule.Game = false
no_binder r = not (is_binder r)

setup_lawful : (p : Symbol) → in_setup p ≡ true → list_all (λ r. no_binder r && lies_in in_setup r) (forms_of p) ≡ true
setup_lawful symbol.Setup inside = refl
setup_lawful p inside = cc

binds_nothing : (at : Standing) (r : Rule) (parts : Trees) (from : ℕ) → no_binder r ≡ true → bound_by (form at r parts from) ≡ []
binds_nothing at rule.Game parts from is = refl
binds_nothing at r parts from is = cc

-- what is bound in a form it mentions
pub form_binds : (tree : Tree) → faults symbol.Sheet tree ≡ [] → Within (flat_map bound_by (parts_of tree)) (var_mentions tree)
form_binds tree none =
    sheet_only (λ tree. Within (flat_map bound_by (parts_of tree)) (var_mentions tree)) tree none
    (λ a b c d e f from to lines rest shaped.
    let setup = setup_of c d e f lines in
    let all = parts_with a b setup rest in
    let setup_at = standing_at standing_alone rule.Game all 1 symbol.Setup in
    subst (λ l. Within l (all_var_words rest))
    (sym (flat_map-append bound_by (parts_at (Some setup_at) setup) (parts_in standing_alone rule.Game all 2 rest)
    ∙ ap (λ l. l ++ flat_map bound_by (parts_in standing_alone rule.Game all 2 rest))
    (tree_silent bound_by in_setup no_binder never setup_lawful refl (never_roles no_binder) (λ at bytes from quiet. refl)
    binds_nothing setup_at setup refl refl)))
    (row_binds standing_alone rule.Game all 2 2 rest (omega arith) (omega arith) shaped.all_fit shaped.rest_fine
    (λ j q above is. game_body all j q above is)))
