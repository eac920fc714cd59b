use Rattle.std.proofs.Common.{◌≡◌, ◌≤◌, ℕ, List, [], length, map, ap, arith}
use Rattle.std.specs.List.{Contains}
use Rattle.std.proofs.lemmas.List.Elements.{All-contains}
use Rattle.rc_sheet_spec.specs.Sheet.{Sheet}
use Rattle.rc_sheet_spec.specs.Sight.{unseen_offsets, IsUnseen}
use Rattle.rc_sheet_spec.proofs.sight_examples.one_first_offset.Goals as goal

not_above : (sheet : Sheet) (at other : ℕ) → IsUnseen sheet at → IsUnseen sheet other → at ≤ other
not_above sheet at other unseen unseen' = All-contains (λ a. at ≤ a) (unseen_offsets sheet) other unseen.first unseen'.stands

none_in : (ats : List ℕ) (at : ℕ) → ats ≡ [] → Contains ats at → ⊥
none_in ats at none (k, within, is) = let e = ap length none in omega arith

pub returns-clause-one : goal.returns-clause-one
returns-clause-one c = λ sheet at other unseen unseen'.
    let below = not_above sheet at other unseen unseen' in
    let above = not_above sheet other at unseen' unseen in
    omega arith

pub returns-clause-none : goal.returns-clause-none
returns-clause-none c = λ sheet at kept unseen. none_in (unseen_offsets sheet) at (ap (map (λ loc. loc.at)) kept) unseen.stands
