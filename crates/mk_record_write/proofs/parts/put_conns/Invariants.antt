-- proofs/parts/put_conns/Invariants.antt
use Rattle.std.proofs.Common.{◌≡◌, ◌++◌, true, flat_map, take, All, IfSome}
use Rattle.std.specs.List.{list_all}
use Rattle.mk_base.specs.Data.{IsDatumText}
use Rattle.mk_record_read.specs.Texts.{conn_line}
use Rattle.mk_record_laws.specs.Again.{conn_is_text}
use Rattle.mk_record_write.proofs.parts.put_conns.Given as goal

abbrev pub invariant-loop-conn : goal.invariant-loop-conn
invariant-loop-conn l = record {
  written : l.out.items ≡ l.fn.out.items ++ flat_map conn_line (take l.conn-index l.conns);
  utf8 : list_all conn_is_text (take l.conn-index l.conns) ≡ true;
  datums : All (λ c. IfSome c.initial IsDatumText) (take l.conn-index l.conns);
}
