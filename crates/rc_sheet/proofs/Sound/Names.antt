-- Variables, owners, locations and stored numbers that stand for a well formed sheet's have no fault by themselves.
use Rattle.std.proofs.Common.{◌≡◌, ℕ, zero, suc, Bool, true, false, not, cond, List, [], ◌∷◌, ◌++◌, Some, is_none, option_map, slice_get, bytes_eq, refl, sym, subst, ap, ◌∙◌, arith}
use Rattle.std.specs.Prelude.{codes}
use Rattle.std.proofs.lemmas.Option.{same_Some}
use Rattle.std.proofs.lemmas.Bool.{cond-true, or_from}
use Rattle.std.proofs.lemmas.Slice.Eq.{bytes_eq-Decides}
use Rattle.rc_base.specs.Tree.{Tree, word, list, Trees, nil, cons}
use Rattle.rc_sheet_spec.specs.Sheet.{Sort, player_sort, Who, game, current_player, current_team, team_of_current, team_of_var, who_var, Loc, Num, Sheet}
use Rattle.rc_sheet_spec.specs.Rows.{Atom}
use Rattle.rc_sheet_spec.specs.Naming.{Variable, Scope, class_of, Named, InScope, KindOf, sheet_naming}
use Rattle.rc_sheet_spec.specs.Naming.{kind_word as kind_bytes}
use Rattle.rc_sheet_spec.specs.StandsExpressions.{StandsOwner, StandsHolder, StandsLoc, StandsNum}
use Rattle.rc_sheet_spec.specs.WellFormed.{Around, IsOwner, IsHolder}
use Rattle.rc_check.specs.Faults.{is_variable, rule_of}
use Rattle.rc_check.specs.declared.keyword.Keyword.{Keyword}
use Rattle.rc_check.specs.declared.grammar.Symbol.{Symbol}
use Rattle.rc_check.specs.declared.grammar.Symbol.TheVariants as symbol
use Rattle.rc_check.specs.declared.grammar.Rule.TheVariants as rule
use Rattle.rc_check.specs.Classes.{class_at}
use Rattle.rc_check.specs.declared.role.Role.{Role}
use Rattle.rc_check.specs.declared.role.Role.TheVariants.{No as no_role}
use Rattle.rc_check.specs.SecondParts.{Standing, Part, atom, parts_at}
use Rattle.rc_check.specs.SecondNames.{some_of, mention_of, OwnedMention}
use Rattle.rc_check.specs.SecondFaults.{sorts_at, variable_in, is_unnamed, is_other_sort, is_other_side, is_misplaced}
use Rattle.rc_sheet.proofs.One.Rows.{three_parts}
use Rattle.rc_sheet.proofs.One.Names.{Apart, TakesHeld, variable_word, owner_forms, rule_told}
use Rattle.rc_sheet.proofs.One.Expressions.{last_false}
use Rattle.rc_sheet.proofs.Sound.Parts.{standing, all_join, IsSound, AllSound, Sound, sound_alone, atom_sound, plain_atom, constant_atom, list_sound, sound_list, easy_sound}

-- VARIABLES

-- a variable in scope is found by its word
pub found_at : (scope : Scope) (var : ℕ) (v : Variable) → Apart scope → slice_get scope var ≡ Some v
    → variable_in scope v.word ≡ Some v
found_at [] var v alone is = absurd cc
found_at (x ∷ scope) zero v alone is =
    let same : x ≡ v = same_Some x v is in
    cond-true (bytes_eq v.word x.word) _ _ ((bytes_eq-Decides v.word x.word).1 (ap (λ (v : Variable). v.word) (sym same)))
    ∙ ap Some same
found_at (x ∷ scope) (suc var) v alone is =
    by (bytes_eq v.word x.word) refl
    (found_at scope var v
    (λ i j v w here there same. let next : suc i ≡ suc j = alone (suc i) (suc j) v w here there same in omega (arith, next)) is)
  where
    by : (b : Bool) → bytes_eq v.word x.word ≡ b → variable_in scope v.word ≡ Some v
        → cond b (Some x) (variable_in scope v.word) ≡ Some v
    by true same later =
        let none : zero ≡ suc var = alone zero (suc var) x v refl is (sym ((bytes_eq-Decides v.word x.word).0 same)) in absurd cc
    by false other later = later

-- OWNERS

-- what is around owners, by the places where they stand
pub record TakesOwners (q : Symbol) : Type 0 where
  pub player : (f t f' t' : ℕ)
      → rule_of q (cons (word (codes "current") f t) (cons (word (codes "player") f' t') nil)) ≡ Some rule.CurrentPlayer
  pub team : (f t f' t' : ℕ)
      → rule_of q (cons (word (codes "current") f t) (cons (word (codes "team") f' t') nil)) ≡ Some rule.CurrentTeam
  pub team_of : (f t f' t' : ℕ) (player : Tree)
      → rule_of q (cons (word (codes "team") f t) (cons (word (codes "of") f' t') (cons player nil))) ≡ Some rule.TeamOf
  pub sort : (bytes : List ℕ) → is_other_sort (sorts_at q) (Some (record { word = bytes; sort = player_sort })) ≡ false

pub owner_place : TakesOwners symbol.Owner
owner_place = record {
  player = λ f t f' t'. refl;
  team = λ f t f' t'. refl;
  team_of = λ f t f' t' player. refl;
  sort = λ bytes. refl;
}

pub holder_place : TakesOwners symbol.Holder
holder_place = record {
  player = λ f t f' t'. refl;
  team = λ f t f' t'. refl;
  team_of = λ f t f' t' player. refl;
  sort = λ bytes. refl;
}

pub side_place : TakesOwners symbol.Side
side_place = record {
  player = λ f t f' t'. refl;
  team = λ f t f' t'. refl;
  team_of = λ f t f' t' player. refl;
  sort = λ bytes. refl;
}

-- the class of an owner is the one that is written
pub owner_class : (scope : Scope) (who : Who) (tree : Tree) → StandsOwner scope who tree → class_at tree ≡ class_of who
owner_class scope who tree stands =
    owner_forms scope (λ who tree. class_at tree ≡ class_of who)
    (λ f t f' t' from to. refl)
    (λ f t f' t' from to. refl)
    (λ f t f' t' g u g' u' start end from to. refl)
    (λ f t f' t' from to var player is. refl)
    (λ bytes from to var is. variable_word (λ b. class_at (word b from to) ≡ class_of (who_var var)) bytes is.1 (λ rest. refl))
    who tree stands

pub holder_class : (scope : Scope) (who : Who) (tree : Tree) → StandsHolder scope who tree → class_at tree ≡ class_of who
holder_class scope game (word bytes from to) stands =
    subst (λ b. class_at (word b from to) ≡ class_of game) (sym stands) refl
holder_class scope game (list parts from to) stands = absurd stands
holder_class scope current_player tree stands = owner_class scope current_player tree stands
holder_class scope current_team tree stands = owner_class scope current_team tree stands
holder_class scope team_of_current tree stands = owner_class scope team_of_current tree stands
holder_class scope (team_of_var var) tree stands = owner_class scope (team_of_var var) tree stands
holder_class scope (who_var var) tree stands = owner_class scope (who_var var) tree stands

-- A sheet, and all parts of a form.
module _ (sheet : Sheet) (all : List Part) where
  -- a fixed word
  pub fixed : (k : Keyword) (around : Around) (beside : Trees) (above : List (List ℕ)) (bytes : List ℕ) (from : ℕ)
      → IsSound sheet all (atom (standing (symbol.Word k) around no_role beside above) bytes from)
  fixed k around beside above bytes from =
      plain_atom sheet all (standing (symbol.Word k) around no_role beside above) bytes from refl refl refl

  -- a variable in scope
  pub bound_atom : (at : Standing) (bytes : List ℕ) (from to var : ℕ) (sort : Sort) → Apart at.around.scope
      → InScope at.around.scope sort var (word bytes from to)
      → is_other_sort (sorts_at at.place) (Some (record { word = bytes; sort = sort })) ≡ false
      → is_unnamed all at.role bytes ≡ false → is_other_side at at.role ≡ false → IsSound sheet all (atom at bytes from)
  bound_atom at bytes from to var sort alone stands fits named other =
      let found : variable_in at.around.scope bytes ≡ Some (record { word = bytes; sort = sort }) =
      found_at at.around.scope var (record { word = bytes; sort = sort }) alone stands.0 in
      atom_sound sheet all at bytes from
      (last_false (is_variable bytes) (some_of (sorts_at at.place)) (is_none (variable_in at.around.scope bytes))
      (ap is_none found))
      named
      (last_false (is_variable bytes) (some_of (sorts_at at.place))
      (is_other_sort (sorts_at at.place) (variable_in at.around.scope bytes))
      (ap (is_other_sort (sorts_at at.place)) found ∙ fits))
      other

  pub var_sound : (q : Symbol) (around : Around) (sort : Sort) (var : ℕ) (tree : Tree) → Apart around.scope
      → ((bytes : List ℕ) → is_other_sort (sorts_at q) (Some (record { word = bytes; sort = sort })) ≡ false)
      → InScope around.scope sort var tree → Sound sheet all q around tree
  var_sound q around sort var (word bytes from to) alone fits stands role beside above plain = (
    bound_atom (standing q around role beside above) bytes from to var sort alone stands (fits bytes) (plain.named bytes)
        plain.other,
    tt,
  )
  var_sound q around sort var (list parts from to) alone fits stands role beside above plain = absurd stands

  -- `(current player)`
  current_sound : (q : Symbol) (around : Around) (f t f' t' from to : ℕ)
      → rule_of q (cons (word (codes "current") f t) (cons (word (codes "player") f' t') nil)) ≡ Some rule.CurrentPlayer
      → around.player_stage ≡ true
      → Sound sheet all q around (list (cons (word (codes "current") f t) (cons (word (codes "player") f' t') nil)) from to)
  current_sound q around f t f' t' from to told is =
      sound_list sheet all q rule.CurrentPlayer around
      (cons (word (codes "current") f t) (cons (word (codes "player") f' t') nil)) from to told
      (λ p r b a from plain. record { once = refl; known = ap not is; kind_fits = plain.other; shallow = refl; said = tt })
      (λ p r b a. (fixed _ _ _ _ _ _, (fixed _ _ _ _ _ _, tt)))

  pub owner_sound : (q : Symbol) (around : Around) (who : Who) (tree : Tree) → TakesOwners q → Apart around.scope
      → StandsOwner around.scope who tree → IsOwner around who → Sound sheet all q around tree
  owner_sound q around who tree takes alone stands =
      owner_forms around.scope (λ who tree. IsOwner around who → Sound sheet all q around tree)
      (λ f t f' t' from to is. current_sound q around f t f' t' from to (takes.player f t f' t') is)
      (λ f t f' t' from to is. sound_list sheet all q rule.CurrentTeam around
      (cons (word (codes "current") f t) (cons (word (codes "team") f' t') nil)) from to (takes.team f t f' t')
      (λ p r b a from plain. record { once = refl; known = ap not is; kind_fits = plain.other; shallow = refl; said = tt })
      (λ p r b a. (fixed _ _ _ _ _ _, (fixed _ _ _ _ _ _, tt))))
      (λ f t f' t' g u g' u' start end from to is.
      let player = list (cons (word (codes "current") g u) (cons (word (codes "player") g' u') nil)) start end in
      team_sound f t f' t' from to player (current_sound symbol.Player around g u g' u' start end refl is))
      (λ f t f' t' from to var player within is. team_sound f t f' t' from to player
      (var_sound symbol.Player around player_sort var player alone (λ bytes. refl) within))
      (λ bytes from to var within is. var_sound q around player_sort var (word bytes from to) alone takes.sort within)
      who tree stands
    where
      team_sound : (f t f' t' from to : ℕ) (player : Tree) → Sound sheet all symbol.Player around player
          → Sound sheet all q around
          (list (cons (word (codes "team") f t) (cons (word (codes "of") f' t') (cons player nil))) from to)
      team_sound f t f' t' from to player sound =
          sound_list sheet all q rule.TeamOf around
          (cons (word (codes "team") f t) (cons (word (codes "of") f' t') (cons player nil))) from to
          (takes.team_of f t f' t' player)
          (easy_sound sheet all rule.TeamOf refl around _)
          (λ p r b a. (
            fixed _ _ _ _ _ _,
            (
              fixed _ _ _ _ _ _,
              all_join sheet all _ [] (sound_alone sheet all symbol.Player around player _ _ sound) tt,
            ),
          ))

  -- HOLDER
  pub holder_sound : (around : Around) (who : Who) (tree : Tree) → Apart around.scope → StandsHolder around.scope who tree
      → IsHolder around who → Sound sheet all symbol.Holder around tree
  holder_sound around game (word bytes from to) alone stands is role beside above plain = (
    constant_atom sheet all (standing symbol.Holder around role beside above) bytes from
        (ap is_variable stands) (plain.named bytes) plain.other,
    tt,
  )
  holder_sound around game (list parts from to) alone stands is role beside above plain = absurd stands
  holder_sound around current_player tree alone stands is role beside above plain =
      owner_sound symbol.Holder around current_player tree holder_place alone stands is role beside above plain
  holder_sound around current_team tree alone stands is role beside above plain =
      owner_sound symbol.Holder around current_team tree holder_place alone stands is role beside above plain
  holder_sound around team_of_current tree alone stands is role beside above plain =
      owner_sound symbol.Holder around team_of_current tree holder_place alone stands is role beside above plain
  holder_sound around (team_of_var var) tree alone stands is role beside above plain =
      owner_sound symbol.Holder around (team_of_var var) tree holder_place alone stands is role beside above plain
  holder_sound around (who_var var) tree alone stands is role beside above plain =
      owner_sound symbol.Holder around (who_var var) tree holder_place alone stands is role beside above plain

  -- LOC
  -- a role takes the locations of this name
  abbrev pub Takes : Role → Loc → Type 0
  Takes role loc =
      (mention : OwnedMention)
      → option_map (λ l. kind_bytes l.kind) (slice_get sheet.locs loc.name) ≡ Some mention.kind
      → mention.class ≡ class_of loc.who → is_misplaced role mention ≡ false

  pub loc_sound : (q : Symbol) (around : Around) (loc : Loc) (tree : Tree) (role : Role) (beside : Trees)
      (above : List (List ℕ)) → TakesHeld q rule.Location → Apart around.scope
      → is_other_side (standing q around role beside above) role ≡ false → Takes role loc
      → StandsLoc (sheet_naming sheet) around.scope loc tree → IsHolder around loc.who
      → AllSound sheet all (parts_at (Some (standing q around role beside above)) tree)
  loc_sound q around loc tree role beside above fits alone other takes stands is =
      three_parts (StandsHolder around.scope loc.who) (KindOf (sheet_naming sheet) loc.name)
      (Named sheet.names.locs loc.name)
      (λ tree. AllSound sheet all (parts_at (Some (standing q around role beside above)) tree)) tree stands.0
      (λ holder kind name from to holds k n. made holder kind name from to holds k n)
    where
      made : (holder kind name : Tree) (from to : ℕ) → StandsHolder around.scope loc.who holder
          → KindOf (sheet_naming sheet) loc.name kind → Named sheet.names.locs loc.name name
          → AllSound sheet all
          (parts_at (Some (standing q around role beside above)) (list (cons holder (cons kind (cons name nil))) from to))
      made holder (list inner f t) name from to holds k n = absurd k
      made holder (word kind f t) (list inner f' t') from to holds k n = absurd n
      made holder (word kind f t) (word name f' t') from to holds k n =
          let parts = cons holder (cons (word kind f t) (cons (word name f' t') nil)) in
          list_sound sheet all (standing q around role beside above) rule.Location parts from to
          (rule_told q parts rule.Location (fits around.scope loc.who holder (word kind f t) (word name f' t') holds))
          (record {
            once = refl;
            known = refl;
            kind_fits = or_from (is_misplaced role (mention_of parts))
                (is_other_side (standing q around role beside above) role)
                (takes (mention_of parts) k (holder_class around.scope loc.who holder holds)) other;
            shallow = refl;
            said = record {
              number = loc.name;
              named = n.0;
              same_kind = k;
              same_class = stands.1 ∙ ap Some (sym (holder_class around.scope loc.who holder holds));
            };
          })
          (all_join sheet all (parts_at (Some (standing symbol.Holder around no_role parts (above ++ []))) holder) _
          (sound_alone sheet all symbol.Holder around holder parts (above ++ [])
          (holder_sound around loc.who holder alone holds is)) (
            plain_atom sheet all (standing symbol.Kind around no_role parts (above ++ [])) kind f refl refl refl,
            (plain_atom sheet all (standing symbol.Name around no_role parts (above ++ [])) name f' refl refl refl, tt),
          ))

  -- at a place of which nothing more is wanted
  pub plain_loc : (q : Symbol) (around : Around) (loc : Loc) (tree : Tree) → TakesHeld q rule.Location → Apart around.scope
      → StandsLoc (sheet_naming sheet) around.scope loc tree → IsHolder around loc.who → Sound sheet all q around tree
  plain_loc q around loc tree fits alone stands is role beside above plain =
      loc_sound q around loc tree role beside above fits alone plain.other (λ mention k class. plain.placed mention) stands is

  -- NUM
  pub num_sound : (q : Symbol) (around : Around) (num : Num) (tree : Tree) → TakesHeld q rule.Counter → Apart around.scope
      → StandsNum (sheet_naming sheet) around.scope num tree → IsHolder around num.who → Sound sheet all q around tree
  num_sound q around num tree fits alone stands is =
      three_parts (StandsHolder around.scope num.who) (Atom "sto") (Named sheet.names.nums num.name)
      (λ tree. Sound sheet all q around tree) tree stands.0
      (λ holder kind name from to holds k n. made holder kind name from to holds k n)
    where
      made : (holder kind name : Tree) (from to : ℕ) → StandsHolder around.scope num.who holder
          → Atom "sto" kind → Named sheet.names.nums num.name name
          → Sound sheet all q around (list (cons holder (cons kind (cons name nil))) from to)
      made holder (list inner f t) name from to holds k n = absurd k
      made holder (word kind f t) (list inner f' t') from to holds k n = absurd n
      made holder (word kind f t) (word name f' t') from to holds k n =
          let parts = cons holder (cons (word kind f t) (cons (word name f' t') nil)) in
          sound_list sheet all q rule.Counter around parts from to
          (rule_told q parts rule.Counter (fits around.scope num.who holder (word kind f t) (word name f' t') holds))
          (λ p r b a from plain. record {
            once = refl;
            known = refl;
            kind_fits = plain.other;
            shallow = refl;
            said = record {
              number = num.name;
              named = n.0;
              stored = k;
              same_class = stands.1 ∙ ap Some (sym (holder_class around.scope num.who holder holds));
            };
          })
          (λ p r b a. all_join sheet all (parts_at (Some (standing symbol.Holder around no_role parts (a ++ []))) holder) _
          (sound_alone sheet all symbol.Holder around holder parts (a ++ []) (holder_sound around num.who holder alone holds is)) (
            fixed _ around parts (a ++ []) kind f,
            (plain_atom sheet all (standing symbol.Name around no_role parts (a ++ [])) name f' refl refl refl, tt),
          ))
