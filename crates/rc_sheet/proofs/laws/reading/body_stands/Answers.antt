use Rattle.rc_sheet.specs.ReadItems.{items_at, score_at, body_at}
use Rattle.rc_sheet.proofs.Means.{means_so}
use Rattle.rc_sheet.proofs.ReadOff.Items.{items_mean, score_means, body_means}
use Rattle.rc_sheet.proofs.laws.reading.body_stands.Goals as goal

pub returns-clause-items : goal.returns-clause-items
returns-clause-items c naming begun behind trees all is =
    means_so (items_at naming begun trees) (all, behind) (items_mean naming begun trees) is

pub returns-clause-score : goal.returns-clause-score
returns-clause-score c naming tree best score is =
    means_so (score_at naming tree) (best, score) (score_means naming tree) is

pub returns-clause-body : goal.returns-clause-body
returns-clause-body c naming trees all best score is =
    means_so (body_at naming trees) (all, (best, score)) (body_means naming trees) is
