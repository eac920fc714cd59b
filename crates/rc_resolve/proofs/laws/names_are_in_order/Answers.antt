use Rattle.rc_resolve.proofs.Gathered.{location_words, number_words}
use Rattle.rc_resolve.proofs.Whole.{locs_in_order, nums_in_order, loc_numbers, num_numbers}
use Rattle.rc_resolve.proofs.laws.names_are_in_order.Goals as goal

pub returns : goal.returns
returns c =
    record {
      locations = location_words;
      numbers = number_words;
      locs = locs_in_order;
      nums = nums_in_order;
      loc_numbers = loc_numbers;
      num_numbers = num_numbers;
    }
