-- Records under way, as they are shown at the end.
use Rattle.std.proofs.Common.{◌≡◌, ℕ, ◌+◌, ◌<◌, Bool, true, false, List, [], ◌∷◌, ◌++◌, length, drop, get_or, map, refl, sym, ap, ◌∙◌}
use Rattle.std.proofs.lemmas.List.{at_drop_more}
use Rattle.std.specs.Prelude.{if◌then◌else◌, ◌&&◌}
use Rattle.std.specs.List.{list_all}
use Rattle.app_api.specs.App.{Meaning}
use Rattle.report_text.specs.declared.record.RecordKind.TheVariants.{Conn, Orphan}
use Rattle.packet_views.specs.declared.packet.Class.TheVariants as Class
use Rattle.lane_core.specs.Sight.{Segment, Sight, Tcp, Other}
use Rattle.lane_core.specs.Records.{RecordSoFar, opens}
use Rattle.lane_core.specs.Shown.{kind_of}
use Rattle.lane_core.specs.declared.under_way.RecordUnderWay.{RecordUnderWay}
use Rattle.lane_core.specs.Kept.{slot_of}
use Rattle.report_text.specs.Kept.{is_conn}
use Rattle.report_text.specs.Ranges.{record_fits}
use Rattle.report_text.specs.Report.{record_text, records_text}
use Rattle.lane_core.specs.End.{ended}
use Rattle.lane_core.specs.Lane.{shown}

conn_where : (b : Bool) (segment : Segment) → is_conn (if b then Conn segment.sender segment.receiver else Orphan Class.Tcp) ≡ b
conn_where true segment = refl
conn_where false segment = refl

-- a record is that of a connection where its first packet opens one
conn_opens : (sight : Sight) → is_conn (kind_of sight) ≡ opens sight
unfolding kind_of opens
conn_opens (Tcp segment) = conn_where (opens (Tcp segment)) segment
conn_opens (Other class) = refl

ended_shown : (keep : Bool) (app : Meaning) (one : RecordSoFar) → ended app (slot_of keep one) ≡ shown keep app one
ended_shown keep app one =
    ap (λ b. record (shown keep app one) { fields = if b then app.fields one.history.tally else [] }) (conn_opens one.first.sight)

pub all_ended : (keep : Bool) (app : Meaning) (so_far : List RecordSoFar) → map (ended app) (map (slot_of keep) so_far) ≡ map (shown keep app) so_far
all_ended keep app [] = refl
all_ended keep app (one ∷ others) =
    ap (λ r. r ∷ map (ended app) (map (slot_of keep) others)) (ended_shown keep app one) ∙ ap (λ rs. shown keep app one ∷ rs) (all_ended keep app others)

pub maps : {A B C : Type 0} (g : B → C) (f : A → B) (xs : List A) → map g (map f xs) ≡ map (λ x. g (f x)) xs
maps g f [] = refl
maps g f (x ∷ xs) = ap (λ ys. g (f x) ∷ ys) (maps g f xs)

pub version_of_all : (keep : Bool) (so_far : List RecordSoFar) → map (λ s. s.version) (map (slot_of keep) so_far) ≡ map (λ r. r.version) so_far
version_of_all keep [] = refl
version_of_all keep (one ∷ others) = ap (λ vs. one.version ∷ vs) (version_of_all keep others)

-- the text of records under way from a place on, one record at a time
pub slots_text-drop : (app : Meaning) (ss : List RecordUnderWay) (i : ℕ) (s : RecordUnderWay) → i < length ss → s ≡ get_or ss i s
    → records_text (map (ended app) (drop i ss)) ≡ record_text (ended app s) ++ records_text (map (ended app) (drop (i + 1) ss))
slots_text-drop app ss i s within is =
    at_drop_more (λ rest. records_text (map (ended app) rest)) ss i s within
    ∙ ap (λ x. record_text (ended app x) ++ records_text (map (ended app) (drop (i + 1) ss))) (sym is)

-- that they fit, from a place on, one record at a time
pub slots_fit-drop : (app : Meaning) (ss : List RecordUnderWay) (i : ℕ) (s : RecordUnderWay) → i < length ss → s ≡ get_or ss i s → record_fits (ended app s) ≡ true
    → list_all record_fits (map (ended app) (drop i ss)) ≡ list_all record_fits (map (ended app) (drop (i + 1) ss))
slots_fit-drop app ss i s within is fits =
    at_drop_more (λ rest. list_all record_fits (map (ended app) rest)) ss i s within
    ∙ ap (λ x. record_fits (ended app x) && list_all record_fits (map (ended app) (drop (i + 1) ss))) (sym is)
    ∙ ap (λ b. b && list_all record_fits (map (ended app) (drop (i + 1) ss))) fits
