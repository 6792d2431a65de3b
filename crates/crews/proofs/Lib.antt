mod Joins
mod LaneRuns
mod LastLooks
mod PostRuns
