use Rattle.sercos_c.proofs.ring_opening.ring_in.Goals as goal

pub ring_of-requires-clause-opened : goal.ring_of-requires-clause-opened
ring_of-requires-clause-opened c =
    let read = c.in_ok-document.ensures in
    c.kept_law.ensures.opened c.in_ok-document.document.setup c.in_ok-document.document.jobs read.setup read.jobs read.typed.0 read.typed.1
