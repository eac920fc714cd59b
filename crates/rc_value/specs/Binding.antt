-- Statements of laws: in a well formed sheet at most four variables are bound around any place.
use Rattle.std.specs.Prelude.{ℕ, ◌+◌, ◌≤◌, max, All}
use Rattle.rc_base.specs.Limits.{most_variables}
use Rattle.rc_sheet_spec.specs.Sheet.{CardExpr, CollExpr, IntExpr, Test, Domain, each_player, each_card, each_group, Alt, do_alt, if_alt, any_alt, Sheet}
use Rattle.rc_sheet_spec.specs.WellFormed.{Around, IsCard, IsColl, IsInt, IsTest, IsRange, IsDomain, IsAlt, IsWellFormed}
use Rattle.rc_play_spec.specs.Menu.{alts_at}
use Rattle.rc_value.specs.Depth.{card_depth, coll_depth, int_depth, test_depth, domain_depth}

-- how many variables the domain of an alternative binds inside one another
abbrev pub range_depth : Domain → ℕ
range_depth each_player = 0
range_depth (each_card cards) = coll_depth cards
range_depth (each_group cards attr) = coll_depth cards

abbrev pub alt_depth : Alt → ℕ
alt_depth (do_alt effects) = 0
alt_depth (if_alt guard effects) = test_depth guard
alt_depth (any_alt domain bound alt) = max (range_depth domain) (1 + alt_depth alt)

-- how many variables an alternative binds before its guard
abbrev pub domains_in : Alt → ℕ
domains_in (do_alt effects) = 0
domains_in (if_alt guard effects) = 0
domains_in (any_alt domain bound alt) = 1 + domains_in alt

abbrev pub CardsBindFew : Type 0
CardsBindFew =
    (sheet : Sheet) (around : Around) (e : CardExpr) → around.binders ≤ most_variables → IsCard sheet around e →
    around.binders + card_depth e ≤ most_variables

abbrev pub CollectionsBindFew : Type 0
CollectionsBindFew =
    (sheet : Sheet) (around : Around) (e : CollExpr) → around.binders ≤ most_variables → IsColl sheet around e →
    around.binders + coll_depth e ≤ most_variables

abbrev pub NumbersBindFew : Type 0
NumbersBindFew =
    (sheet : Sheet) (around : Around) (e : IntExpr) → around.binders ≤ most_variables → IsInt sheet around e →
    around.binders + int_depth e ≤ most_variables

abbrev pub TestsBindFew : Type 0
TestsBindFew =
    (sheet : Sheet) (around : Around) (t : Test) → around.binders ≤ most_variables → IsTest sheet around t →
    around.binders + test_depth t ≤ most_variables

abbrev pub RangesBindFew : Type 0
RangesBindFew =
    (sheet : Sheet) (around : Around) (domain : Domain) → around.binders ≤ most_variables →
    IsRange sheet around domain →
    around.binders + domain_depth domain ≤ most_variables

abbrev pub DomainsBindFew : Type 0
DomainsBindFew =
    (sheet : Sheet) (around : Around) (domain : Domain) → around.binders ≤ most_variables →
    IsDomain sheet around domain →
    around.binders + range_depth domain ≤ most_variables

-- an alternative, with the variables of its domains
pub record BindsFew (binders : ℕ) (alt : Alt) : Type 0 where
  pub deep : binders + alt_depth alt ≤ most_variables
  pub long : binders + domains_in alt ≤ most_variables

abbrev pub AlternativesBindFew : Type 0
AlternativesBindFew =
    (sheet : Sheet) (around : Around) (alt : Alt) → around.binders ≤ most_variables → IsAlt sheet around alt →
    BindsFew around.binders alt

-- the alternatives of a choice
abbrev pub ChoicesBindFew : Type 0
ChoicesBindFew = (sheet : Sheet) (site : ℕ) → IsWellFormed sheet → All (BindsFew 0) (alts_at sheet site)
