-- What holds for the text of every script.
use Rattle.std.specs.Prelude.{ℕ, List}
use Rattle.forward_counts.specs.Counts.{ForwardIsCounted}
use Rattle.session_laws.specs.Quiet.{QuietServesOn}
use Rattle.session_laws.specs.Reports.{ReportsComeInTime, RequestsAreTold, FramesAreCounted}
use Rattle.session_laws.specs.Reports.{ReportsSay, TellsInBlock}
use Rattle.script_commands.specs.Start.{EachStart}
use Rattle.script_commands.specs.Headline.{HasTranscript, HasWorld, IsPlaced, IsStreamed, IsReadOf}
use Rattle.script_commands.specs.Connection.{EachConnection, IsSessionOf, IsSentBy, IsLosslessOf}
use Rattle.script_commands.specs.Connection.{IsDeliveredTo, AreOfWorld, HasHistory}

-- What holds for every session, whatever its site, its state and its rounds are: so for each
-- connection of a script and each one of a station's run.
pub record SessionLaws : Type 0 where
  -- between two reports of a running cycle none is late, and a request is followed by a report in its
  -- round
  pub in_time : ReportsComeInTime
  pub asked : RequestsAreTold
  -- the counts are those of the frames that were handed over since the BIND, and the rest is that of
  -- the round's look, or of its book
  pub counts : FramesAreCounted
  pub say : ReportsSay
  -- a report, and a notice that the book gave, are in the block that the round offers
  pub told : TellsInBlock
  -- one whose peer says nothing but heartbeats goes on serving, over a link that is open
  pub quiet : QuietServesOn

-- Of a script, whatever its octets are, by the text and the state that its lines lead to.
pub record IsLawful (script : List ℕ) : Type 0 where
  -- the text of each line is between those of the lines before and after it
  pub transcript : HasTranscript script
  -- the lines are events of a world, for which the headline holds at each moment
  pub world : HasWorld script
  -- of each START of the desk: where its messages are in the text, that they are a stream, and what
  -- a user reads of them
  pub placed : EachStart script (IsPlaced script)
  pub streamed : EachStart script IsStreamed
  pub read : EachStart script IsReadOf
  -- of each connection: what the text says of it is *Session*; its lines `sent C` are the messages
  -- that this session offered and its link took whole; the book loses nothing that it asks; and what
  -- holds for every session, as that its status reports come in time
  pub sessions : EachConnection script IsSessionOf
  pub sent : EachConnection script IsSentBy
  pub lossless : EachConnection script IsLosslessOf
  pub all : SessionLaws
  -- the numbers of the forward service's reports are those of its run's events in a book's history
  pub counted : ForwardIsCounted
  -- each START on it is handed what *Delivery* of it hands over of the archive, then and after any
  -- later lines, and is one of the STARTs of the world for which the headline holds
  pub deliveries : EachConnection script IsDeliveredTo
  pub in_world : EachConnection script AreOfWorld
  -- and the one book of the script has one legal history from each recovery to the next
  pub history : HasHistory script
