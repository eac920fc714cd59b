-- What a form's fine parts say is found and well formed: spots, effects, domains and alternatives.
use Rattle.std.proofs.Common.{◌≡◌, ℕ, suc, ◌≤◌, ◌||◌, true, cond, List, [], ◌∷◌, length, Some, option_map, refl, sym, subst, ap, ◌∙◌, arith, lt-ltb, leb-false}
use Rattle.rc_base.specs.Tree.{Tree, word, list, Trees, nil, cons}
use Rattle.rc_sheet_spec.specs.Sheet.{Class, game_class, player_class, team_class, Sort, card_sort, group_sort, End, top, bottom, Loc, Domain, each_player, each_card, each_group, move, move_all, remember, forget, shuffle, set_to, increase, decrease, when, repeat, next_is, turn_round, peek, Effects, no_effect, effect, do_alt, if_alt, Sheet}
use Rattle.rc_sheet_spec.specs.Lists.{effect_list}
use Rattle.rc_base.specs.Limits.{most_repeats}
use Rattle.rc_sheet_spec.specs.Naming.{sort_of, sheet_naming}
use Rattle.rc_sheet_spec.specs.WellFormed.{Around, in_repeat, IsInStage, IsLoc, IsColl, IsRange, IsDomain, IsEffect, AreEffects, IsAlt, AreAlts}
use Rattle.rc_check.specs.Classes.{bound_in}
use Rattle.rc_check.specs.SecondParts.{Standing, standing_in, sort_by_form, sort_over, bytes_of, part_at, word_in}
use Rattle.rc_check.specs.SecondFaults.{sorts_at, is_in_stage}
use Rattle.rc_check.specs.Faults.{is_word, is_variable, atom_faults, rule_of, count}
use Rattle.rc_check.specs.declared.keyword.Keyword.TheVariants as keyword
use Rattle.rc_check.specs.declared.grammar.Symbol.TheVariants as symbol
use Rattle.rc_check.specs.declared.grammar.Rule.{Rule}
use Rattle.rc_check.specs.declared.grammar.Rule.TheVariants as rule
use Rattle.rc_check.specs.declared.fault.SheetKind.TheVariants.{Shape}
use Rattle.rc_sheet.specs.ReadExpressions.{coll_rule}
use Rattle.rc_sheet.specs.ReadEffects.{spot_rule, spot_at, effect_at, effect_rule, effects_at, domain_rule, domain_at, alt_at, alt_rule, alts_at}
use Rattle.rc_sheet.proofs.Fine.Common.{Given}
use Rattle.rc_sheet.proofs.Finds.{Finds, finds, implies, makes, follows, finds_both, joins}
use Rattle.rc_sheet.proofs.GoodParts.{◌▹◌, Each, by_parts, each_by_parts}
use Rattle.rc_sheet.proofs.GoodForms.{from_one, from_two, from_three, plain_part, Says, with_two, with_three, with_four, behind_one, behind_two, behind_three, list_says, rest_good}
use Rattle.rc_sheet.proofs.Fine.Names.{passes_test, Gives, Good, IsPlaced, loc_finds, num_finds, owner_finds, attr_finds, binder_finds, behind_binder}
use Rattle.rc_sheet.proofs.Fine.Expressions.{Reads, reads, words_read, lists_read, range_word_finds, location_says, filter_says, union_says, known_says}

-- a stage of an owner's class is around
stage_around : (around : Around) (class : Class) → is_in_stage around class ≡ true → IsInStage around class
stage_around around game_class is = absurd cc
stage_around around player_class is = is
stage_around around team_class is = is

-- what a range is, as a domain
range_is_domain : (sheet : Sheet) (around : Around) (domain : Domain) → IsRange sheet around domain → IsDomain sheet around domain
range_is_domain sheet around each_player is = is
range_is_domain sheet around (each_card cards) is = is
range_is_domain sheet around (each_group cards attr) is = absurd is

-- how the effects of a repeat stand, and those of `all`
in_repeats : (at : Standing) (all : Trees) (i : ℕ) → 2 ≤ i
    → standing_in at rule.Repeat all i ≡ Some (record (plain_part at symbol.Effect all) { around = in_repeat at.around })
in_repeats at all =
    from_two _ (λ j. ap (λ b. Some (record (plain_part at symbol.Effect all)
    { around = cond b (in_repeat at.around) at.around }))
    (lt-ltb 1 (suc (suc j)) (omega arith)))

-- and those of `all`
in_all : (at : Standing) (all : Trees) (i : ℕ) → 3 ≤ i
    → standing_in at rule.Each all i
    ≡ Some (record (plain_part at symbol.Effect all) { around = bound_in at.around (word_in 2 all) (sort_over (part_at 1 all)) })
in_all at all =
    from_three _ (λ j. ap (λ b. Some (record (plain_part at symbol.Effect all) {
      around = cond b (bound_in at.around (word_in 2 all) (sort_over (part_at 1 all))) at.around;
    })) (lt-ltb 2 (suc (suc (suc j))) (omega arith)))

module _ (sheet : Sheet) (given : Given) (gives : Gives sheet given) where
  -- a spot, whose location holds what its role wants
  abbrev pub SpotAt : Standing → End × Loc → Type 0
  SpotAt at spot = IsLoc sheet at.around spot.1 × IsPlaced sheet given at.role spot.1.name

  -- a spot
  pub spot_finds : (at : Standing) (tree : Tree) → at.place ≡ symbol.Spot → Good sheet given at tree
      → Finds (spot_at (sheet_naming sheet) at.around.scope tree) (SpotAt at)
  spot_finds at (word bytes from to) here good =
      absurd (refused (subst (λ p. atom_faults p bytes from ≡ []) here good.shaped))
    where
      refused : atom_faults symbol.Spot bytes from ≡ [] → ⊥
      refused is = cc
  spot_finds at (list parts from to) here good =
      list_says given (sheet_naming sheet) (λ tree. Unit {0}) (spot_rule (sheet_naming sheet) at.around.scope) symbol.Spot at parts
      from to
      here (each_by_parts (λ bytes from to. tt) (λ parts from to each. tt) parts) good
      (with_two given (sheet_naming sheet) (λ tree. Unit {0}) (λ n. refl)
      (λ head loc each form. makes _ (λ loc. (top, loc)) (loc_finds sheet given _ loc refl form.good.1.0) (λ l is. is))
      ▹ with_two given (sheet_naming sheet) (λ tree. Unit {0}) (λ n. refl)
      (λ head loc each form. makes _ (λ loc. (bottom, loc)) (loc_finds sheet given _ loc refl form.good.1.0) (λ l is. is))
      ▹ tt)

  -- EFFECT
  pub record Acts (tree : Tree) : Type 0 where
    pub effect : (at : Standing) → at.place ≡ symbol.Effect → Good sheet given at tree
        → Finds (effect_at (sheet_naming sheet) at.around.scope tree) (IsEffect sheet at.around)

  -- a form of this rule says an effect
  abbrev SaysEffect : Standing → Rule → Trees → Type 0
  SaysEffect at rule parts =
      Says given (sheet_naming sheet) Acts at rule (effect_rule (sheet_naming sheet) at.around.scope) (IsEffect sheet at.around) parts

  -- effects, as many as their parts, in what is around them
  abbrev pub AreEffectsOf : Trees → Around → Effects → Type 0
  AreEffectsOf parts around es = AreEffects sheet around es × (length (effect_list es) ≡ count parts)

  -- they are read
  abbrev pub EffectsIn : Trees → Around → Type 0
  EffectsIn parts around = Finds (effects_at (sheet_naming sheet) around.scope parts) (AreEffectsOf parts around)

  -- one after the other
  pub effects_find : (at : Standing) (parts : Trees) → at.place ≡ symbol.Effect → Each Acts parts
      → Each (Good sheet given at) parts → EffectsIn parts at.around
  effects_find at nil here each good = finds no_effect (tt, refl)
  effects_find at (cons part parts) here each good =
      joins _ _ effect (each.0.effect at here good.0) (effects_find at parts here each.1 good.1)
      (λ e es is are. ((is, are.0), ap (λ n. suc n) are.1))

  -- `(move CARD SPOT)`
  move_says : (at : Standing) (parts : Trees) → SaysEffect at rule.Move parts
  move_says at parts =
      with_three given (sheet_naming sheet) Acts (λ n. refl)
      (λ head card spot each form. makes _ (λ p. move p.0 p.1.0 p.1.1)
      (finds_both _ _ ((reads sheet given gives card).card _ refl form.good.1.0) (spot_finds _ spot refl form.good.1.1.0))
      (λ p is. is))

  -- `(move all COLL SPOT)`
  move_all_says : (at : Standing) (parts : Trees) → SaysEffect at rule.MoveAll parts
  move_all_says at parts =
      with_four given (sheet_naming sheet) Acts (λ n. refl)
      (λ head all cards spot each form. makes _ (λ p. move_all p.0 p.1.0 p.1.1)
      (finds_both _ _ ((reads sheet given gives cards).coll _ refl form.good.1.1.0) (spot_finds _ spot refl form.good.1.1.1.0))
      (λ p is. is))

  -- `(remember CARD SPOT)`
  remember_says : (at : Standing) (parts : Trees) → SaysEffect at rule.Remember parts
  remember_says at parts =
      with_three given (sheet_naming sheet) Acts (λ n. refl)
      (λ head card spot each form. makes _ (λ p. remember p.0 p.1.0 p.1.1)
      (finds_both _ _ ((reads sheet given gives card).card _ refl form.good.1.0) (spot_finds _ spot refl form.good.1.1.0))
      (λ p is. is))

  -- `(forget CARD)`
  forget_says : (at : Standing) (parts : Trees) → SaysEffect at rule.Forget parts
  forget_says at parts =
      with_two given (sheet_naming sheet) Acts (λ n. refl)
      (λ head card each form. makes _ forget ((reads sheet given gives card).card _ refl form.good.1.0) (λ c is. is))

  -- `(shuffle LOC)`
  shuffle_says : (at : Standing) (parts : Trees) → SaysEffect at rule.Shuffle parts
  shuffle_says at parts =
      with_two given (sheet_naming sheet) Acts (λ n. refl)
      (λ head loc each form. makes _ shuffle (loc_finds sheet given _ loc refl form.good.1.0) (λ l is. is))

  -- `(set NUM INT)`
  set_says : (at : Standing) (parts : Trees) → SaysEffect at rule.Set parts
  set_says at parts =
      with_three given (sheet_naming sheet) Acts (λ n. refl)
      (λ head num value each form. joins _ _ set_to (num_finds sheet given _ num refl form.good.1.0)
      ((reads sheet given gives value).int _ refl form.good.1.1.0) (λ n v is is'. (is, is')))

  -- `(inc NUM INT)`
  increase_says : (at : Standing) (parts : Trees) → SaysEffect at rule.Increase parts
  increase_says at parts =
      with_three given (sheet_naming sheet) Acts (λ n. refl)
      (λ head num value each form. joins _ _ increase (num_finds sheet given _ num refl form.good.1.0)
      ((reads sheet given gives value).int _ refl form.good.1.1.0) (λ n v is is'. (is, is')))

  -- `(dec NUM INT)`
  decrease_says : (at : Standing) (parts : Trees) → SaysEffect at rule.Decrease parts
  decrease_says at parts =
      with_three given (sheet_naming sheet) Acts (λ n. refl)
      (λ head num value each form. joins _ _ decrease (num_finds sheet given _ num refl form.good.1.0)
      ((reads sheet given gives value).int _ refl form.good.1.1.0) (λ n v is is'. (is, is')))

  -- `(cycle next OWNER)`
  next_says : (at : Standing) (parts : Trees) → SaysEffect at rule.Next parts
  next_says at parts =
      with_three given (sheet_naming sheet) Acts (λ n. refl)
      (λ head next owner each form. makes _ next_is (owner_finds sheet given _ owner refl form.good.1.1.0)
      (λ who is. (is.0, subst (IsInStage at.around) (sym is.1) (stage_around at.around _ form.fine.fits))))

  -- `(cycle reverse)`
  reverse_says : (at : Standing) (parts : Trees) → SaysEffect at rule.Reverse parts
  reverse_says at parts = record { says = λ each form. finds turn_round form.fine.fits }

  -- `(peek COLL OWNER)`
  peek_says : (at : Standing) (parts : Trees) → SaysEffect at rule.Peek parts
  peek_says at parts =
      with_three given (sheet_naming sheet) Acts (λ n. refl)
      (λ head cards owner each form. joins _ _ peek ((reads sheet given gives cards).coll _ refl form.good.1.0)
      (owner_finds sheet given _ owner refl form.good.1.1.0) (λ c who is owns. (is, owns.0)))

  -- `(if BOOL EFFECT+)`
  if_says : (at : Standing) (parts : Trees) → SaysEffect at rule.If parts
  if_says at parts =
      behind_two given (sheet_naming sheet) Acts (λ n. refl)
      (λ head t rest some each form.
      let alike = rest_good given (sheet_naming sheet) Acts at rule.If (cons head (cons t rest))
      (plain_part at symbol.Effect (cons head (cons t rest))) 2 rest (from_two _ (λ j. refl)) form.good.1.1 in
      joins _ _ when ((reads sheet given gives t).test _ refl form.good.1.0) (effects_find _ rest refl each.1.1 alike)
      (λ t es is are. let long = are.1 in (is, omega (arith, some, long), are.0)))

  -- `(repeat INT EFFECT+)`
  repeat_says : (at : Standing) (parts : Trees) → SaysEffect at rule.Repeat parts
  repeat_says at parts =
      behind_two given (sheet_naming sheet) Acts (λ n. refl)
      (λ head times rest some each form.
      let alike = rest_good given (sheet_naming sheet) Acts at rule.Repeat (cons head (cons times rest)) _ 2 rest
      (in_repeats at (cons head (cons times rest))) form.good.1.1 in
      joins _ _ repeat ((reads sheet given gives times).int _ refl form.good.1.0) (effects_find _ rest refl each.1.1 alike)
      (λ t es is are.
      let long = are.1 in (is, leb-false most_repeats at.around.repeats form.fine.fits, omega (arith, some, long), are.0)))

  -- `(all RANGE 'V EFFECT+)`
  all_says : (at : Standing) (parts : Trees) → SaysEffect at rule.Each parts
  all_says at parts =
      behind_three given (sheet_naming sheet) Acts (λ n. refl)
      (λ head range variable rest some each form.
      let alike = rest_good given (sheet_naming sheet) Acts at rule.Each (cons head (cons range (cons variable rest))) _ 3 rest
      (in_all at (cons head (cons range (cons variable rest)))) form.good.1.1.1 in
      follows _ _ ((reads sheet given gives range).range _ refl form.good.1.0)
      (λ domain is. follows _ _ (binder_finds sheet given at _ _ variable form.fine.fits refl refl form.good.1.1.0)
      (λ bound binds. makes _ _
      (behind_binder sheet given (EffectsIn rest) at.around (bytes_of variable) bound (sort_of domain) (sort_over range) binds
      is.1 (effects_find _ rest refl each.1.1.1 alike))
      (λ es are. let long = are.1 in (is.0, binds.0, omega (arith, some, long), are.0)))))

  -- each tree is read at the place of an effect where it stands well
  pub acts : (tree : Tree) → Acts tree
  acts =
      by_parts
      (λ bytes from to. record {
        effect = λ at here good. absurd (refused bytes from (subst (λ p. atom_faults p bytes from ≡ []) here good.shaped));
      })
      (λ parts from to each. record {
        effect = λ at here good.
            list_says given (sheet_naming sheet) Acts (effect_rule (sheet_naming sheet) at.around.scope) symbol.Effect at parts from to
            here each good
            (move_says at parts ▹ move_all_says at parts ▹ remember_says at parts ▹ forget_says at parts
            ▹ shuffle_says at parts ▹ set_says at parts ▹ increase_says at parts ▹ decrease_says at parts ▹ if_says at parts
            ▹ repeat_says at parts ▹ all_says at parts ▹ next_says at parts ▹ reverse_says at parts ▹ peek_says at parts ▹ tt);
      })
    where
      refused : (bytes : List ℕ) (from : ℕ) → atom_faults symbol.Effect bytes from ≡ [] → ⊥
      refused bytes from is = cc

  -- DOMAIN, of the sort that its form tells
  abbrev pub DomainAt : Around → Sort → Domain → Type 0
  DomainAt around sort domain = IsDomain sheet around domain × (sort ≡ sort_of domain)

  -- a form of this rule says a domain
  abbrev SaysDomain : Standing → ℕ → Rule → Trees → Type 0
  SaysDomain at from rule parts =
      Says given (sheet_naming sheet) (Reads sheet given) at rule (domain_rule (sheet_naming sheet) at.around.scope from)
      (DomainAt at.around (sort_by_form (rule_of symbol.Domain parts))) parts

  -- the sort that its form tells
  sort_told : (at : Standing) (parts : Trees) (found : Rule) → at.place ≡ symbol.Domain → rule_of at.place parts ≡ Some found
      → sort_by_form (rule_of symbol.Domain parts) ≡ sort_by_form (Some found)
  sort_told at parts found here told = ap (λ p. sort_by_form (rule_of p parts)) (sym here) ∙ ap sort_by_form told

  -- cards as a domain
  cards_say : (at : Standing) (from : ℕ) (found : Rule) (parts : Trees) → at.place ≡ symbol.Domain
      → domain_rule (sheet_naming sheet) at.around.scope from found parts
      ≡ option_map each_card (coll_rule (sheet_naming sheet) at.around.scope from found parts)
      → sort_by_form (Some found) ≡ card_sort
      → Says given (sheet_naming sheet) (Reads sheet given) at found (coll_rule (sheet_naming sheet) at.around.scope from)
      (IsColl sheet at.around) parts
      → SaysDomain at from found parts
  cards_say at from found parts here same sort cards =
      record {
        says = λ each form.
            subst (λ o. Finds o (DomainAt at.around (sort_by_form (rule_of symbol.Domain parts)))) (sym same)
            (makes _ each_card (cards.says each form) (λ c is. (is, sort_told at parts found here form.told ∙ sort)));
      }

  -- groups as a domain, of the sort that stands there
  groups_say : (at : Standing) (from : ℕ) (parts : Trees)
      → Says given (sheet_naming sheet) (Reads sheet given) at rule.Partition (domain_rule (sheet_naming sheet) at.around.scope from)
      (λ domain. IsDomain sheet at.around domain × (sort_of domain ≡ group_sort)) parts
  groups_say at from parts =
      with_three given (sheet_naming sheet) (Reads sheet given) (λ n. refl)
      (λ head cards attr each form. joins _ _ each_group (each.1.0.coll _ refl form.good.1.0)
      (attr_finds sheet given gives _ attr refl refl form.good.1.1.0) (λ c n is named. ((is, named), refl)))

  -- `(partition COLL ATTR)`
  partition_says : (at : Standing) (from : ℕ) (parts : Trees) → at.place ≡ symbol.Domain
      → SaysDomain at from rule.Partition parts
  partition_says at from parts here =
      record {
        says = λ each form. implies _ ((groups_say at from parts).says each form)
            (λ domain is. (is.0, sort_told at parts rule.Partition here form.told ∙ sym is.1));
      }

  -- a domain
  pub domain_finds : (at : Standing) (tree : Tree) → at.place ≡ symbol.Domain → Good sheet given at tree
      → Finds (domain_at (sheet_naming sheet) at.around.scope tree) (DomainAt at.around (sort_over tree))
  domain_finds at (word bytes from to) here good =
      implies _ (range_word_finds sheet given at bytes from to
      (passes_test (is_word keyword.Player bytes || is_variable bytes) Shape from
      (subst (λ p. atom_faults p bytes from ≡ []) here good.shaped)) (ap sorts_at here) good)
      (λ domain is. (range_is_domain sheet at.around domain is.0, is.1))
  domain_finds at (list parts from to) here good =
      list_says given (sheet_naming sheet) (Reads sheet given) (domain_rule (sheet_naming sheet) at.around.scope from) symbol.Domain at
      parts from to here (each_by_parts (words_read sheet given) (lists_read sheet given gives) parts) good
      (cards_say at from rule.Location parts here refl refl (location_says sheet given at from parts)
      ▹ cards_say at from rule.Filter parts here refl refl (filter_says sheet given at from parts)
      ▹ cards_say at from rule.Union parts here refl refl (union_says sheet given at from parts)
      ▹ cards_say at from rule.Known parts here refl refl (known_says sheet given at from parts)
      ▹ partition_says at from parts here
      ▹ tt)

  -- ALT
  pub record Offers (tree : Tree) : Type 0 where
    pub alt : (at : Standing) → at.place ≡ symbol.Alternative → Good sheet given at tree
        → Finds (alt_at (sheet_naming sheet) at.around.scope tree) (IsAlt sheet at.around)

  -- a form of this rule says an alternative
  abbrev SaysAlt : Standing → Rule → Trees → Type 0
  SaysAlt at rule parts =
      Says given (sheet_naming sheet) Offers at rule (alt_rule (sheet_naming sheet) at.around.scope) (IsAlt sheet at.around) parts

  -- an alternative, in what is around it
  abbrev AltIn : Tree → Around → Type 0
  AltIn alt around = Finds (alt_at (sheet_naming sheet) around.scope alt) (IsAlt sheet around)

  -- each of these trees is read at the place of an effect
  pub each_acts : (parts : Trees) → Each Acts parts
  each_acts nil = tt
  each_acts (cons part parts) = (acts part, each_acts parts)

  -- `(do EFFECT+)`
  do_alt_says : (at : Standing) (parts : Trees) → SaysAlt at rule.Do parts
  do_alt_says at parts =
      behind_one given (sheet_naming sheet) Offers (λ n. refl)
      (λ head rest some each form.
      let alike = rest_good given (sheet_naming sheet) Offers at rule.Do (cons head rest)
      (plain_part at symbol.Effect (cons head rest)) 1 rest (from_one _ (λ j. refl)) form.good.1 in
      makes _ do_alt (effects_find _ rest refl (each_acts rest) alike)
      (λ es are. let long = are.1 in (omega (arith, some, long), are.0)))

  -- `(if BOOL EFFECT+)`
  if_alt_says : (at : Standing) (parts : Trees) → SaysAlt at rule.If parts
  if_alt_says at parts =
      behind_two given (sheet_naming sheet) Offers (λ n. refl)
      (λ head t rest some each form.
      let alike = rest_good given (sheet_naming sheet) Offers at rule.If (cons head (cons t rest))
      (plain_part at symbol.Effect (cons head (cons t rest))) 2 rest (from_two _ (λ j. refl)) form.good.1.1 in
      joins _ _ if_alt ((reads sheet given gives t).test _ refl form.good.1.0) (effects_find _ rest refl (each_acts rest) alike)
      (λ t es is are. let long = are.1 in (is, omega (arith, some, long), are.0)))

  -- `(any DOMAIN 'V ALT)`
  any_alt_says : (at : Standing) (parts : Trees) → SaysAlt at rule.AnyOf parts
  any_alt_says at parts =
      with_four given (sheet_naming sheet) Offers (λ n. refl)
      (λ head domain variable alt each form. follows _ _ (domain_finds _ domain refl form.good.1.0)
      (λ d is. follows _ _ (binder_finds sheet given at _ _ variable form.fine.fits refl refl form.good.1.1.0)
      (λ bound binds. makes _ _
      (behind_binder sheet given (AltIn alt) at.around (bytes_of variable) bound (sort_of d) (sort_over domain) binds
      is.1 (each.1.1.1.0.alt _ refl form.good.1.1.1.0))
      (λ a offered. (is.0, binds.0, offered)))))

  -- each tree is read at the place of an alternative where it stands well
  pub offers : (tree : Tree) → Offers tree
  offers =
      by_parts
      (λ bytes from to. record {
        alt = λ at here good. absurd (refused bytes from (subst (λ p. atom_faults p bytes from ≡ []) here good.shaped));
      })
      (λ parts from to each. record {
        alt = λ at here good.
            list_says given (sheet_naming sheet) Offers (alt_rule (sheet_naming sheet) at.around.scope) symbol.Alternative at parts
            from to
            here each good (do_alt_says at parts ▹ if_alt_says at parts ▹ any_alt_says at parts ▹ tt);
      })
    where
      refused : (bytes : List ℕ) (from : ℕ) → atom_faults symbol.Alternative bytes from ≡ [] → ⊥
      refused bytes from is = cc

  -- alternatives, one after the other, where nothing is in scope
  pub alts_find : (at : Standing) (parts : Trees) → at.place ≡ symbol.Alternative → at.around.scope ≡ []
      → Each (Good sheet given at) parts
      → Finds (alts_at (sheet_naming sheet) parts) (λ alts. AreAlts sheet at.around alts × (length alts ≡ count parts))
  alts_find at nil here free good = finds [] (tt, refl)
  alts_find at (cons part parts) here free good =
      joins _ _ ◌∷◌
      (subst (λ scope. Finds (alt_at (sheet_naming sheet) scope part) (IsAlt sheet at.around)) free
      ((offers part).alt at here good.0))
      (alts_find at parts here free good.1) (λ a later is are. ((is, are.0), ap (λ n. suc n) are.1))
