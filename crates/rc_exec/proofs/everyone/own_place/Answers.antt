use Rattle.std.proofs.Common.{◌+◌, ◌≤◌, map, option_map, sym, ap, subst, ◌∙◌}
use Rattle.std.specs.Prelude.{IfSome}
use Rattle.rc_base.specs.Limits.{most_numbers}
use Rattle.rc_sheet_spec.specs.Sheet.{NumName, player_class}
use Rattle.rc_value.proofs.OwnLemmas.{own_among, few_places}
use Rattle.rc_exec.proofs.everyone.own_place.Goals as goal

pub invariant_of-result : goal.invariant_of-result
invariant_of-result c =
    let sheet = c.args.about.now.sheet in
    let is = sym c.number_at.ensures ∙ c.in-Some.is in
    record {
      few = subst (λ place. IfSome place (λ n. n ≤ most_numbers)) is
          (few_places (λ (num : NumName). num.class) sheet player_class 0 sheet.nums c.args.name most_numbers
          c.sheet-fits.ensures.well.limits.numbers);
    }

pub returns-in-Some : goal.returns-in-Some
returns-in-Some c =
    let sheet = c.args.about.now.sheet in
    let is = sym c.number_at.ensures ∙ c.in-Some.is in
    λ player lt.
    own_among sheet player lt (map (λ (num : NumName). num.class) sheet.nums) c.args.name
    ∙ ap (option_map (λ first. first + player)) is
