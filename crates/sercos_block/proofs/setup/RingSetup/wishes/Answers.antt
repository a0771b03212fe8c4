use Rattle.sercos_block.proofs.WishLemmas.{IsValid-asked}
use Rattle.sercos_block.proofs.setup.RingSetup.wishes.Goals as goal

pub returns-clause-valid : goal.returns-clause-valid
returns-clause-valid c = IsValid-asked _ c.args.self.now c.self.view_is c.requires c.as_slice.ensures.value c.order_copy.ensures c.as_slice-2.ensures.value c.wish_list.ensures.value c.wish_list.ensures.lens
