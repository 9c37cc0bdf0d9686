use Rattle.oblivcc_commands.proofs.Meaning.{check_once, clear_once, deal_once, check_not_clear, check_not_deal, clear_not_deal}
use Rattle.oblivcc_commands.proofs.asked.have_one_meaning.Goals as goal

pub returns : goal.returns
returns c = record {
  check = check_once;
  clear = clear_once;
  deal = deal_once;
  check_or_clear = check_not_clear;
  check_or_deal = check_not_deal;
  clear_or_deal = clear_not_deal;
}
