use Rattle.std.proofs.Common.{◌∙◌, ap, sym, subst, ◌≤◌, length}
use Rattle.rc_form.specs.Form.{tree_of}
use Rattle.rc_resolve.specs.Known.{naming_by}
use Rattle.rc_resolve.proofs.Stored.{if_ok}
use Rattle.rc_resolve.proofs.Whole.{naming_is, locs_fit, nums_fit}
use Rattle.rc_resolve.proofs.numbering.naming_of.Goals as goal

pub naming-requires-clause-locs : goal.naming-requires-clause-locs
naming-requires-clause-locs c =
    subst (λ known. length known.locs ≤ 65536) (sym c.in_ok-known.ensures)
    (locs_fit (tree_of c.args.form.now) 65536 c.requires.locs)

pub naming-requires-clause-nums : goal.naming-requires-clause-nums
naming-requires-clause-nums c =
    subst (λ known. length known.nums ≤ 65536) (sym c.in_ok-known.ensures)
    (nums_fit (tree_of c.args.form.now) 65536 c.requires.nums)

pub returns : goal.returns
returns c =
    record {
      names = if_ok c.naming.result c.naming.ensures
          (λ naming seen. seen ∙ ap naming_by c.in_ok-known.ensures ∙ naming_is (tree_of c.args.form.now));
    }
