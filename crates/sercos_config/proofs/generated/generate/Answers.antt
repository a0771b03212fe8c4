use Rattle.std.proofs.lemmas.Result.{IfOk-weaker}
use Rattle.sercos_config.proofs.GeneratedLemmas.{document_has_ring, document_has_jobs, document_has_faults, document_is_typed}
use Rattle.sercos_config.proofs.generated.generate.Goals as goal

pub returns-clause-setup : goal.returns-clause-setup
returns-clause-setup c = IfOk-weaker _ _ _ (λ d e. document_has_ring c.args.n d c.requires.some c.requires.few e) c.document_for.ensures

pub returns-clause-jobs : goal.returns-clause-jobs
returns-clause-jobs c = IfOk-weaker _ _ _ (λ d e. document_has_jobs c.args.n d c.requires.few e) c.document_for.ensures

pub returns-clause-faults : goal.returns-clause-faults
returns-clause-faults c = IfOk-weaker _ _ _ (λ d e. document_has_faults c.args.n d e) c.document_for.ensures

pub returns-clause-typed : goal.returns-clause-typed
returns-clause-typed c = IfOk-weaker _ _ _ (λ d e. document_is_typed c.args.n d e) c.document_for.ensures
