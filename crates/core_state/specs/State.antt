-- The state of the core: plain data. What is told of blocks, lanes, dies or pages of a span is a function of the number.
-- This project's own.
use Rattle.std.specs.Prelude.{ℕ, Bool, List, Option}
use Rattle.sbpf_insn.specs.declared.insn.Insn.{Insn}
use Rattle.sbpf_insn.specs.Machine.{Outcome}
use Rattle.dispatcher.specs.declared.side.Side.{Side}
use Rattle.dispatcher.specs.declared.side.Place.{Place}
use Rattle.plain_files.specs.declared.calls.Request.{Request}
use Rattle.core_state.specs.declared.actor.Actor.{Actor}

-- a list of 4,096 bytes
abbrev pub Page : Type 0
Page = List ℕ

-- ---- what never changes

-- the geometry, the frames of both sides, the number of lanes, and where calls with a function are to run
pub record Shape : Type 0 where
  pub blocks : ℕ
  pub dies : ℕ
  pub host_frames : ℕ
  pub drive_frames : ℕ
  pub lanes : ℕ
  pub place : Place

-- ---- a data block

-- in the hands of a lane's call
pub record Loan : Type 0 where
  pub lane : ℕ
  pub page : Page

pub record Block : Type 0 where
  pub host : Option Page
  pub drive : Option Page
  pub flash : Page
  pub clean : Bool
  pub written : Bool
  pub version : ℕ
  pub lent : Option Loan

-- ---- files and functions

pub record File : Type 0 where
  pub id : ℕ
  pub name : List ℕ
  pub len : ℕ
  pub sealed : Bool

-- e is what its past runs tell: the instructions that it runs for a page
pub record Function : Type 0 where
  pub name : List ℕ
  pub code : List Insn
  pub e : ℕ

-- the files by rising id, the id that comes next, and the functions
pub record Names : Type 0 where
  pub files : List File
  pub next : ℕ
  pub functions : List Function

-- the block of a page of a file, by the file's id
abbrev pub Places : Type 0
Places = ℕ → ℕ → Option ℕ

-- ---- lanes

pub data Stage : Type 0 where
  Outside : Stage  -- not entered
  Inside : Stage  -- idle, or in flight where it has a call
  Gone : Stage  -- left

-- marked where a die event for this lane has failed since its last reply
pub record LaneState : Type 0 where
  pub stage : Stage
  pub ended : ℕ
  pub mark : Bool

-- ---- calls in flight

pub data Mode : Type 0 where
  Shared : Mode
  Exclusive : Mode

-- What a call meets in its file. It locks the pages from, .., to - 1, its span is the pages first, .., first + pages - 1,
-- and the bytes that it is about are begin, .., end - 1.
pub record Reach : Type 0 where
  pub mode : Mode
  pub from : ℕ
  pub to : ℕ
  pub first : ℕ
  pub pages : ℕ
  pub begin : ℕ
  pub end : ℕ

-- what Begin fixes of a call; a `sync` has no file, and 0 stands for its id
pub record Claim : Type 0 where
  pub request : Request
  pub file : ℕ
  pub side : Side
  pub reach : Reach

-- what a call has at its side for a page of its span
pub data Frame : Type 0 where
  NoFrame : Frame
  Reserved : Frame
  OnLoan : Frame

-- Reported with its result, if its function ran
pub data Phase : Type 0 where
  Held : Phase
  Queued : Phase
  Running : (worker : ℕ) → Phase
  Reported : (result : Option Outcome) → Phase

-- frames and gathered pages by their place in the span; meta is the number of meta pages that a `sync` has written
pub record Flight : Type 0 where
  pub claim : Claim
  pub frame : ℕ → Frame
  pub gathered : ℕ → Option Page
  pub phase : Phase
  pub meta : ℕ

-- ---- dies

-- what a die is out for: a page of the span of a lane's call, a block with its version and page, or a page of the meta data
pub data Errand : Type 0 where
  ToFill : (lane i : ℕ) → Errand
  ToFlush : (block version : ℕ) (page : Page) → Errand
  ToMeta : (number : ℕ) (bytes : Page) → Errand

pub record Out : Type 0 where
  pub holder : Actor
  pub errand : Errand

-- the FillIns, the FlushIns and MetaIns, and how many of them all have failed
pub record DieState : Type 0 where
  pub out : Option Out
  pub fills : ℕ
  pub writes : ℕ
  pub failed : ℕ

-- ---- all of it

pub record Core : Type 0 where
  pub shape : Shape
  pub blocks : ℕ → Block
  pub host_order : List ℕ
  pub drive_order : List ℕ
  pub unclean : List ℕ
  pub meta : ℕ → Page
  pub names : Names
  pub places : Places
  pub lanes : ℕ → LaneState
  pub calls : ℕ → Option Flight  -- by lane
  pub dies : ℕ → DieState
  pub queue : List ℕ
  pub closer : ℕ
  pub last : ℕ
