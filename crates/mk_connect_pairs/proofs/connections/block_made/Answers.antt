-- Answers to the goals of `connections::block_made` that the prover leaves.
use Rattle.std.proofs.Common.{◌≡◌, ◌∙◌, ap, sym, subst, List, Result, Ok, IfOk, IfErr}
use Rattle.mk_plan.specs.declared.Conn.{Conn}
use Rattle.mk_connect_pairs.specs.Connections.{block_pairs, pair_made}
use Rattle.mk_connect_pairs.specs.Ends.{place_fault}
use Rattle.mk_connect_pairs.specs.Faults.{IsFaultOf, through}
use Rattle.mk_connect_pairs.specs.declared.fault.ConnectFault.{ConnectFault}
use Rattle.mk_connect_pairs.proofs.Testing.{paired, unpaired}
use Rattle.mk_connect_pairs.proofs.connections.block_made.Goals as goal

pub returns-in-Ok-clause-ok : goal.returns-in-Ok-clause-ok
returns-in-Ok-clause-ok c =
    let sims = c.args.study.now.sims.now in
    let entities = c.args.study.now.entities.now in
    let block = c.args.block.now in
    let next = through (pair_made sims c.args.study.now.models.now entities block) c.args.made in
    subst (λ (r : Result (List Conn) ConnectFault). IfOk c.pairs_made.result (λ new. r ≡ Ok new))
    (ap next c.as_slice.ensures.value ∙ sym (paired next (place_fault sims entities block.from) (place_fault sims entities block.to) (block_pairs entities block) c.in-Ok.pairs.items c.in-Ok.ensures.ok)) c.pairs_made.ensures.ok

pub returns-in-Ok-clause-refused : goal.returns-in-Ok-clause-refused
returns-in-Ok-clause-refused c =
    let sims = c.args.study.now.sims.now in
    let entities = c.args.study.now.entities.now in
    let block = c.args.block.now in
    let next = through (pair_made sims c.args.study.now.models.now entities block) c.args.made in
    subst (λ (r : Result (List Conn) ConnectFault). IfErr c.pairs_made.result (IsFaultOf r))
    (ap next c.as_slice.ensures.value ∙ sym (paired next (place_fault sims entities block.from) (place_fault sims entities block.to) (block_pairs entities block) c.in-Ok.pairs.items c.in-Ok.ensures.ok)) c.pairs_made.ensures.refused

pub returns-in-Err-clause-refused : goal.returns-in-Err-clause-refused
returns-in-Err-clause-refused c =
    let sims = c.args.study.now.sims.now in
    let entities = c.args.study.now.entities.now in
    let block = c.args.block.now in
    unpaired (through (pair_made sims c.args.study.now.models.now entities block) c.args.made) (place_fault sims entities block.from) (place_fault sims entities block.to) (block_pairs entities block) c.in-Err.fault c.in-Err.ensures.refused
