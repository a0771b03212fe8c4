use Rattle.sercos_trace.proofs.ReadBack.{first_of, read_back}
use Rattle.sercos_trace.proofs.reading.reading_law.Goals as goal

pub returns : goal.returns
returns c = record {
  back = read_back (record {
    taken = c.line_law.ensures.taken;
    values = c.line_law.ensures.values;
    items = c.line_law.ensures.items;
    written = c.line_law.ensures.written;
  });
  kind = first_of;
}
