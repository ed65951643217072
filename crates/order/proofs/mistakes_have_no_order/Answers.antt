use Rattle.order.proofs.EarlyAnswer.{early_answer}
use Rattle.order.proofs.EndedRow.{second_check}
use Rattle.order.proofs.HiddenEdge.{hidden_edge}
use Rattle.order.proofs.Members.{pending_member, left_out, turned_round, overtaken}
use Rattle.order.proofs.mistakes_have_no_order.Goals as goal

pub returns : goal.returns
returns c = record {
  early_answer = early_answer;
  second_check = second_check;
  hidden_edge = hidden_edge;
  pending_member = pending_member;
  left_out = left_out;
  turned_round = turned_round;
  overtaken = overtaken;
}
