use Rattle.sercos_law_channel.proofs.Pace.JobCosts.{costs_requests, word_read_costs, attribute_costs, list_read_costs, word_write_costs, list_write_costs, reads_cost, writes_cost, request_costs}
use Rattle.sercos_law_channel.proofs.pace_laws.jobs_law.Goals as goal

pub returns : goal.returns
returns c = record {
  requests = costs_requests;
  word_read = word_read_costs;
  attribute = attribute_costs;
  list_read = list_read_costs;
  word_write = word_write_costs;
  list_write = list_write_costs;
  reads = reads_cost;
  writes = writes_cost;
  request = request_costs;
}
