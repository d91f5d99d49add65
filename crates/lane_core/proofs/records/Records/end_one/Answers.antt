use Rattle.std.proofs.Common.{◌≡◌, ◌<◌, sym, ap, subst, ◌∙◌}
use Rattle.std.proofs.lemmas.Result.{on_ok_weaker}
use Rattle.flow_table.specs.Table.{found}
use Rattle.lane_core.specs.declared.connection.Connection.{Connection}
use Rattle.lane_core.specs.Idle.{IsIdle}
use Rattle.lane_core.specs.Steps.{taking}
use Rattle.lane_core.specs.Packets.{Ends}
use Rattle.lane_core.proofs.EndOfRun.{within_by, kind_there, orphan_stays, other_stays, heard_one, idle_one, stays_one}
use Rattle.lane_core.proofs.records.Records.end_one.Goals as goal

-- the record of an orphan
pub returns-in_default-clause-ends : goal.returns-in_default-clause-ends
returns-in_default-clause-ends g c =
    let t = taking g.A.App.meaning c.args.terms.now in
    let self = c.args.self.now in
    let i = c.args.place in
    let one = stays_one t self i (λ control_at pasts tells stands d.
    let within = within_by t.keep self.list.items pasts i stands.shown (subst (λ n. i < n) self.list.ok.0 c.requires.within) in
    let kind = kind_there t control_at self tells pasts stands i d within c.index.result.now c.index.ensures in
    orphan_stays t control_at self tells pasts stands i d within c.in_default.field-0 (sym kind ∙ c.in_default.is)) in
    record { ended = one.ended }

-- its key has no connection
pub returns-in_default-get-clause-ends : goal.returns-in_default-get-clause-ends
returns-in_default-get-clause-ends g c =
    let t = taking g.A.App.meaning c.args.terms.now in
    let self = c.args.self.now in
    let i = c.args.place in
    let key = c.key_between-key.ensures.key in
    let one = stays_one t self i (λ control_at pasts tells stands d.
    let within = within_by t.keep self.list.items pasts i stands.shown (subst (λ n. i < n) self.list.ok.0 c.requires.within) in
    let kind = kind_there t control_at self tells pasts stands i d within c.index.result.now c.index.ensures in
    other_stays t control_at self tells pasts stands i d within c.in-Conn.client c.in-Conn.server (sym kind ∙ c.in-Conn.is)
    (λ conn is same. let none = c.in_default-get.ensures.value ∙ ap (found self.connections) key ∙ is in cc)) in
    record { ended = one.ended }

-- its key has another one
pub returns-then-conn-place-clause-ends : goal.returns-then-conn-place-clause-ends
returns-then-conn-place-clause-ends g c =
    let t = taking g.A.App.meaning c.args.terms.now in
    let self = c.args.self.now in
    let i = c.args.place in
    let key = c.key_between-key.ensures.key in
    let one = stays_one t self i (λ control_at pasts tells stands d.
    let within = within_by t.keep self.list.items pasts i stands.shown (subst (λ n. i < n) self.list.ok.0 c.requires.within) in
    let kind = kind_there t control_at self tells pasts stands i d within c.index.result.now c.index.ensures in
    other_stays t control_at self tells pasts stands i d within c.in-Conn.client c.in-Conn.server (sym kind ∙ c.in-Conn.is)
    (λ conn is same. let it = c.in-Some.ensures.value ∙ ap (found self.connections) key ∙ is in let one : c.in-Some.conn.now ≡ conn = cc in c.if-conn-place.true (ap (λ (x : Connection). x.place) one ∙ same))) in
    record { ended = one.ended }

-- it wasn't idle for too long
pub returns-then-not-was_idle-clause-ends : goal.returns-then-not-was_idle-clause-ends
returns-then-not-was_idle-clause-ends g c =
    let t = taking g.A.App.meaning c.args.terms.now in
    let self = c.args.self.now in
    let i = c.args.place in
    let key = c.key_between-key.ensures.key in
    let conn = c.in-Some.conn.now in
    let one = stays_one t self i (λ control_at pasts tells stands d.
    let within = within_by t.keep self.list.items pasts i stands.shown (subst (λ n. i < n) self.list.ok.0 c.requires.within) in
    let kind = kind_there t control_at self tells pasts stands i d within c.index.result.now c.index.ensures in
    heard_one t control_at self tells pasts stands i d within c.in-Conn.client c.in-Conn.server (sym kind ∙ c.in-Conn.is) conn
    (sym (ap (found self.connections) key) ∙ sym c.in-Some.ensures.value) c.if-conn-place.false
    (subst (λ b. IsIdle self.master conn t.moment b) c.if-not-was_idle.true c.was_idle.ensures)) in
    record { ended = one.ended }

-- it was
pub returns-clause-ends : goal.returns-clause-ends
returns-clause-ends g c =
    let t = taking g.A.App.meaning c.args.terms.now in
    let self = c.args.self.now in
    let i = c.args.place in
    let key = c.key_between-key.ensures.key in
    let conn = c.in-Some.conn.now in
    let new = c.end_idle.new.self in
    on_ok_weaker c.end_idle.result (λ e. record {
      ended = λ control_at pasts tells now stands d.
          let ends : Ends t self new c.key_between-key.result = record { ended = e.ended; none = e.none } in
          let within = within_by t.keep self.list.items pasts i stands.shown (subst (λ n. i < n) self.list.ok.0 c.requires.within) in
          let kind = kind_there t control_at self tells pasts stands i d within c.index.result.now c.index.ensures in
          idle_one t control_at self tells pasts stands i d within c.in-Conn.client c.in-Conn.server (sym kind ∙ c.in-Conn.is) conn
          (sym (ap (found self.connections) key) ∙ sym c.in-Some.ensures.value) c.if-conn-place.false new
          (subst (λ b. IsIdle self.master conn t.moment b) c.if-not-was_idle.false c.was_idle.ensures) now
          (subst (Ends t self new) key ends);
    }) c.end_idle.ensures.stands
