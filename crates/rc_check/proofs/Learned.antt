-- What is known with one part more.
use Rattle.std.proofs.Common.{◌≡◌, ℕ, ◌+◌, ◌<◌, List, [], length, drop, get_or, Option, None, option_map, refl, sym, ap, ◌∙◌}
use Rattle.rc_base.specs.Tree.{Tree, Trees, word, list}
use Rattle.rc_form.specs.Form.{tree_of, trees_of, packed}
use Rattle.rc_form.specs.declared.form.Form.{Form}
use Rattle.rc_form.proofs.FormLemmas.{count_packed}
use Rattle.rc_check.specs.Faults.{place_at}
use Rattle.rc_check.specs.declared.grammar.Symbol.{Symbol}
use Rattle.rc_check.specs.declared.grammar.Rule.{Rule}
use Rattle.rc_check.specs.SecondParts.{Standing, standing_in, role_in, around_in, above_in, parts_at, parts_in}
use Rattle.rc_check.specs.Summary.{Whole, know_all}
use Rattle.rc_check.proofs.Walks.{know_all-append}
use Rattle.rc_check.proofs.Checked.{left_at}

-- a part that stands nowhere
pub nowhere : (tree : Tree) → parts_at None tree ≡ []
nowhere (word bytes from to) = refl
nowhere (list parts from to) = refl

-- where a part stands that has this place
abbrev pub standing_at : Standing → Rule → Trees → ℕ → Symbol → Standing
standing_at outer rule parts index place =
    record {
      place = place;
      role = role_in outer.role rule index;
      beside = parts;
      around = around_in outer.around rule parts index;
      above = above_in outer.above rule parts index;
    }

pub standing_by : (outer : Standing) (rule : Rule) (forms : List Form) (index : ℕ) (found given : Option Symbol)
    → found ≡ place_at rule (length forms) index → found ≡ given
    → standing_in outer rule (packed (trees_of forms)) index
    ≡ option_map (standing_at outer rule (packed (trees_of forms)) index) given
standing_by outer rule forms index found given is told =
    ap (option_map (standing_at outer rule (packed (trees_of forms)) index))
    (ap (λ n. place_at rule n index) (count_packed forms) ∙ sym is ∙ told)

-- what is known with the parts behind one that was learnt
pub learnt : (at : Standing) (rule : Rule) (index : ℕ) (forms : List Form) (part : Form) (known known' : Whole)
    → index < length forms
    → part ≡ get_or forms index part
    → known' ≡ know_all known (parts_at (standing_in at rule (packed (trees_of forms)) index) (tree_of part))
    → know_all known' (parts_in at rule (packed (trees_of forms)) (index + 1) (packed (trees_of (drop (index + 1) forms))))
    ≡ know_all known (parts_in at rule (packed (trees_of forms)) index (packed (trees_of (drop index forms))))
learnt at rule index forms part known known' lt is same =
    let all = packed (trees_of forms) in
    let later = parts_in at rule all (index + 1) (packed (trees_of (drop (index + 1) forms))) in
    ap (λ whole. know_all whole later) same
    ∙ sym (know_all-append known (parts_at (standing_in at rule all index) (tree_of part)) later)
    ∙ ap (λ parts. know_all known parts) (sym (left_at at rule all index forms part lt is))
